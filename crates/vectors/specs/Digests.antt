-- FNV-1a of 64 bits. Assumes nothing.
use Rattle.std.specs.Fmt.{digits, format_spec, padded_integral}
use Rattle.std.specs.Prelude.{ℕ, ◌-◌, ◌*◌, ◌%◌, ◌^◌, false, List, [], bit_xor, fold}

-- the digest after one byte more
abbrev pub stepped : ℕ → ℕ → ℕ
stepped hash byte = (bit_xor hash byte * 0x100_0000_01b3) % 2 ^ 64

-- and after a text more
abbrev pub digested : ℕ → List ℕ → ℕ
digested hash bytes = fold stepped hash bytes

-- the digest of a text
abbrev pub digest_of : List ℕ → ℕ
digest_of bytes = digested 0xcbf2_9ce4_8422_2325 bytes

-- its sixteen hexadecimal digits
abbrev pub digest_word : ℕ → List ℕ
digest_word hash = padded_integral (format_spec 32 0 4 16 (2 ^ 64 - 1)) false [] (digits 16 false hash)
