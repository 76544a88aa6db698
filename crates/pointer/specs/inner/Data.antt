-- The data of a form: between the first 72 bytes and the last 96. Assumes nothing.
use Rattle.std.specs.Prelude.{ℕ, List, take, drop}
use Rattle.pointer.specs.Pointer.{data_size}

abbrev pub data_in : List ℕ → List ℕ
data_in s = take (data_size s) (drop 72 s)
