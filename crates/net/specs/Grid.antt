-- Which cell of some rows and columns is the first that a test picks. Assumes nothing.
use Rattle.std.specs.Prelude.{ℕ, ◌<◌, Bool, true, false}

-- the test, by what it may answer at a cell, passes over each cell of the rows
pub record NoneIn (answers : ℕ → ℕ → Bool → Type 0) (rows columns : ℕ) : Type 0 where
  pub passed : (r c : ℕ) → r < rows → c < columns → answers r c false

-- it picks the cell in row r and column c, and passes over those before it: in earlier rows, and in the same row
pub record IsFirst (answers : ℕ → ℕ → Bool → Type 0) (rows columns r c : ℕ) : Type 0 where
  pub row : r < rows
  pub column : c < columns
  pub picked : answers r c true
  pub above : NoneIn answers r columns
  pub before : (d : ℕ) → d < c → answers r d false
