-- The lengths of a data field: document 01, "Fields", and document 02, i.
-- Assumes nothing.
use Rattle.std.specs.Prelude.{ℕ, ◌%◌, Bool, cond, List, [], ◌∷◌, get_or}

-- No data field is larger.
abbrev pub largest_size : ℕ
largest_size = 1024

-- The bytes of a data field are 128, 256, 512 or 1,024.
abbrev pub sizes : List ℕ
sizes = 128 ∷ 256 ∷ 512 ∷ largest_size ∷ []

-- The two low bits of an ID's length choose which.
unfoldable pub size_of : ℕ → ℕ
size_of length = get_or sizes (length % 4) 0

-- "with L 0 the codes 0 to 3 mean 256, 512, 1,024, 128"
abbrev pub other_sizes : List ℕ
other_sizes = 256 ∷ 512 ∷ largest_size ∷ 128 ∷ []

-- "With L 1 the length codes are as before"; with L 0 they are the others
unfoldable pub field_size : Bool → ℕ → ℕ
field_size ibm length = cond ibm (size_of length) (get_or other_sizes (length % 4) 0)
