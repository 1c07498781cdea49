-- The next ID on a ring of cells. Assumes nothing.
use Rattle.std.specs.Prelude.{Bool, List, ℕ, zero, suc, ◌-◌, Option, None, Some}
use Rattle.scan.specs.declared.Id.{Id}
use Rattle.scan.specs.declared.Scan.{Scan}
use Rattle.scan.specs.declared.Scan.TheVariants.{Gap}
use Rattle.scan.specs.declared.Heard.{Heard}
use Rattle.scan.specs.declared.Heard.TheVariants.{On, Whole}
use Rattle.scan.specs.Ids.{id_step}
use Rattle.fields.specs.declared.Found.{Found}
use Rattle.fields.specs.Rings.{cells_of}

abbrev pub found_at : Id → ℕ → Found
found_at id behind = record { id = id; behind = behind }

-- what the scanner said to a cell: a whole ID is found, and the place after that cell is handed back
unfoldable pub found_by : Heard → ℕ → (Scan → Option Found) → Option Found
found_by (On scan) behind more = more scan
found_by (Whole id) behind more = Some (found_at id behind)

-- the first ID that the scanner hears in n cells from a place on
unfoldable pub heard_in : Bool → List ℕ → ℕ → ℕ → Scan → Option Found
heard_in mfm row zero place scan = None
heard_in mfm row (suc n) place scan =
    found_by (id_step mfm (cells_of row place) scan) (suc place) (λ s. heard_in mfm row n (suc place) s)

-- the first ID of those that stand whole in the cells from one place up to another
unfoldable pub next_id : Bool → List ℕ → ℕ → ℕ → Option Found
next_id mfm row from to = heard_in mfm row (to - from) from (Gap 0)
