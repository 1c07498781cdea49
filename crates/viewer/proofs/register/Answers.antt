-- The register over a part of a side is a fold over its places.
use Rattle.std.proofs.Common.{rules, ◌≡◌, ℕ, List, zero, suc, ◌-◌, add-one, refl, sym, ap, ◌∙◌, fold}
use Rattle.std.specs.List.{range_with_len}
use Rattle.std.proofs.lemmas.Fn.{fold_over}
use Rattle.std.proofs.lemmas.List.Sums.{fold_push}
use Rattle.std.proofs.iter.Yields.{nat_range_steps}
use Rattle.std.proofs.lemmas.Iterator.{YieldsList-from_range}
use Rattle.crc.specs.Crc.{crc_byte}
use Rattle.scan.specs.Marks.{byte_of}
use Rattle.fields.specs.Rings.{cells_of}
use Rattle.viewer.specs.Sectors.{register_over}
use Rattle.viewer.proofs.register.Goals as goal

module _ (row : List ℕ) where
  with_cell : ℕ → ℕ → ℕ
  with_cell crc at = crc_byte crc (byte_of (cells_of row at))

  folds : (crc place n : ℕ) → fold with_cell crc (range_with_len place n) ≡ register_over row crc place n
  unfolding register_over with_cell
  folds crc place zero = refl
  folds crc place (suc n) = rw (add-one place) (folds (with_cell crc place) (suc place) n)

pub returns : goal.returns
unfolding with_cell
returns c =
    fold_over nat_range_steps (λ x. x) _ (λ ys a. a ≡ fold (with_cell c.args.side.now) c.args.crc ys) _
    (λ ys a x b f' j k. (
      let one : b ≡ with_cell c.args.side.now a x = search rules in
          one ∙ ap (λ z. with_cell c.args.side.now z x) j ∙ sym (fold_push (with_cell c.args.side.now) c.args.crc ys x),
      search rules,
    ))
    (record { start = c.args.from; end = c.args.to }) (range_with_len c.args.from (c.args.to - c.args.from)) c.args.crc c.fold.result
    (YieldsList-from_range c.args.from c.args.to (c.args.to - c.args.from) refl refl).runs refl c.fold.ensures.ran
    ∙ folds c.args.side.now c.args.crc c.args.from (c.args.to - c.args.from)
