use Rattle.std.proofs.Common.{◌≡◌, ◌^◌, ℕ, ◌<◌, ◌≤◌, true, get_or, length}
use Rattle.rv_model.specs.Image.{Seg}
use Rattle.image_rows.specs.Found.{HasAllRows, first_word, end_word}
use Rattle.image_rows.proofs.rom.rom_rows.Given as goal

-- all rows of the words below some number are found, which lies between the segments that are done and those to come
abbrev pub invariant-loop-segment : goal.invariant-loop-segment
invariant-loop-segment l = record {
  below : ℕ;
  found : HasAllRows l.image l.rows.items below;
  most : below ≤ 2 ^ 30;
  past : (j : ℕ) (d : Seg) → j < l.segment-index → (get_or l.segment-items j d).exec ≡ true → end_word (get_or l.segment-items j d) ≤ below;
  before : (j : ℕ) (d : Seg) → l.segment-index ≤ j → j < length l.segment-items → below ≤ first_word (get_or l.segment-items j d);
}
