-- The table's words are those of the rule. Assumes nothing.
use Rattle.std.proofs.Common.{◌≡◌, List, [], ◌∷◌, ℕ, zero, suc, ◌+◌, ◌<◌, get_or, add-zero, refl, sym, ap, ◌∙◌, arith}
use Rattle.crc.specs.declared.table.TheConstants.{WORDS}
use Rattle.crc.specs.Crc.{crc_bits, crc_bit}
use Rattle.crc.specs.Table.{word}

-- so many words, from word n on
words : ℕ → ℕ → List ℕ
words n zero = []
words n (suc left) = word n ∷ words (suc n) left

each : (n left i : ℕ) → i < left → get_or (words n left) i 0 ≡ word (n + i)
unfolding words
each n zero i h = absurd (omega arith)
each n (suc left) zero h = ap word (sym (add-zero n))
each n (suc left) (suc i) h = each (suc n) left i (omega arith) ∙ ap word (omega arith)

table : WORDS ≡ words 0 256
unfolding words crc_bits crc_bit
table = refl

pub table_word : (i : ℕ) → i < 256 → get_or WORDS i 0 ≡ word i
table_word i h = ap (λ (ws : List ℕ). get_or ws i 0) table ∙ each 0 256 i h ∙ ap word (omega arith)
