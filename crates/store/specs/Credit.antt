-- What a credit counts, in words for the contracts of other crates. Assumes nothing.
use Rattle.std.specs.Prelude.{ℕ}
use Rattle.store.specs.declared.credit.Credit.{Credit}

abbrev pub credit_free : Credit → ℕ
credit_free c = c.free

abbrev pub credit_all : Credit → ℕ
credit_all c = c.all
