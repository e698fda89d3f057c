-- The places at which the tables of each air begin, one air after the other.
use Rattle.std.proofs.Common.{◌≡◌, ℕ, suc, ◌+◌, ◌≤◌, ◌<◌, List, [], ◌∷◌, ◌++◌, length, drop, get_or, refl, sym, ap, ◌∙◌, subst, append_assoc, arith}
use Rattle.std.specs.Prelude.{◌==◌}
use Rattle.std.specs.List.{prefix_len}
use Rattle.std.proofs.lemmas.List.{drop_more, drop_all, drop-drop, length-drop}
use Rattle.std.proofs.lemmas.List.Sums.{prefix_len-le-length}
use Rattle.gold.specs.declared.instances.Table.{Table}
use Rattle.gold.specs.declared.instances.Witness.{Witness}
use Rattle.gold.specs.declared.shapes.AirShape.{AirShape}
use Rattle.gold.specs.declared.shapes.Shape.{Shape}
use Rattle.gold.specs.Shapes.{Fill, HaveShape, airs_of, instances_from, places_from, counts_of}
use Rattle.wit_columns.specs.Index.{starts_from}
use Rattle.wit_columns.proofs.Found.{length-counts_from, length-airs_of, past_instances, prefix_air}

-- the tables from the place start on are those of the airs from the air a on, and the places of the airs before are known
pub record Begun (shape : Shape) (witness : Witness) (a start : ℕ) (starts : List ℕ) : Type 0 where
  pub inside : start ≤ length witness.tables
  pub filled : Fill (places_from a (drop a (airs_of shape witness)) (drop a (counts_of shape witness))) (drop start witness.tables)
  pub begin : starts ++ starts_from start (drop a (counts_of shape witness)) ≡ starts_from 0 (counts_of shape witness)

no_air : AirShape
no_air = record { rows = 0; columns = 0; most = 0 }

places_more : (fs : List AirShape) (cs : List ℕ) (a : ℕ) → a < length fs → a < length cs
    → places_from a (drop a fs) (drop a cs) ≡ instances_from a (get_or fs a no_air) 0 (get_or cs a 0) ++ places_from (suc a) (drop (a + 1) fs) (drop (a + 1) cs)
places_more fs cs a h k = rw (drop_more fs a no_air h, drop_more cs a 0 k) refl

starts_more : (starts cs : List ℕ) (a start : ℕ) → a < length cs
    → (starts ++ start ∷ []) ++ starts_from (start + get_or cs a 0) (drop (a + 1) cs) ≡ starts ++ starts_from start (drop a cs)
starts_more starts cs a start k =
    append_assoc starts (start ∷ []) (starts_from (start + get_or cs a 0) (drop (a + 1) cs)) ∙ ap (λ (ds : List ℕ). starts ++ starts_from start ds) (sym (drop_more cs a 0 k))

pub Begun-first : (shape : Shape) (witness : Witness) → HaveShape shape witness → Begun shape witness 0 0 []
Begun-first shape witness h = record { inside = omega arith; filled = h.filled; begin = refl }

pub Begun-more : (shape : Shape) (witness : Witness) (a start next : ℕ) (starts more : List ℕ) → Begun shape witness a start starts → a < length shape.airs
    → next ≡ start + prefix_len (λ t. t.air == a) (drop start witness.tables) → more ≡ starts ++ start ∷ [] → Begun shape witness (a + 1) next more
Begun-more shape witness a start next starts more h lt end pushed =
    let fs = airs_of shape witness in
    let tables = witness.tables in
    let cs = counts_of shape witness in
    let c = get_or (counts_of shape witness) a 0 in
    let s : suc a ≡ a + 1 = omega arith in
    let len : length (counts_of shape witness) ≡ length shape.airs = length-counts_from 0 (length shape.airs) witness.tables in
    let known : a < length (airs_of shape witness) = omega (arith, lt, length-airs_of shape witness) in
    let counted : a < length (counts_of shape witness) = omega (arith, len, lt) in
    let left = drop start tables in
    let later = places_from (suc a) (drop (a + 1) fs) (drop (a + 1) cs) in
    let filled : Fill (instances_from a (get_or fs a no_air) 0 c ++ later) left = subst (λ ps. Fill ps left) (places_more fs cs a known counted) h.filled in
    let own : prefix_len (λ (t : Table). t.air == a) (drop start witness.tables) ≡ get_or (counts_of shape witness) a 0 = prefix_air a (get_or fs a no_air) c (drop (a + 1) fs) (drop (a + 1) cs) left filled in
    let there : start + get_or (counts_of shape witness) a 0 ≡ next = omega (arith, end, own) in
    let rest : Fill later (drop c left) = past_instances a (get_or fs a no_air) 0 c later left filled in
    let moved : Fill later (drop (start + c) tables) = subst (λ ts. Fill later ts) (drop-drop c start tables) rest in
    let short : length (drop start witness.tables) + start ≡ length witness.tables = omega (arith, length-drop start tables, h.inside) in
    record {
      inside = omega (arith, end, short, prefix_len-le-length (λ (t : Table). t.air == a) left);
      filled = subst (λ n. Fill (places_from n (drop (a + 1) fs) (drop (a + 1) cs)) (drop next tables)) s (subst (λ n. Fill later (drop n tables)) there moved);
      begin = subst (λ (ns : List ℕ). ns ++ starts_from next (drop (a + 1) cs) ≡ starts_from 0 cs) (sym pushed)
          (subst (λ n. (starts ++ start ∷ []) ++ starts_from n (drop (a + 1) cs) ≡ starts_from 0 cs) there (starts_more starts cs a start counted ∙ h.begin));
    }

pub Begun-all : (shape : Shape) (witness : Witness) (a start : ℕ) (starts more : List ℕ) → Begun shape witness a start starts → length shape.airs ≤ a
    → more ≡ starts ++ start ∷ [] → more ≡ starts_from 0 (counts_of shape witness)
Begun-all shape witness a start starts more h le pushed =
    let cs = counts_of shape witness in
    let len : length (counts_of shape witness) ≡ length shape.airs = length-counts_from 0 (length shape.airs) witness.tables in
    let none : drop a (counts_of shape witness) ≡ [] = drop_all a cs (omega (arith, len, le)) in
    pushed ∙ ap (λ (ds : List ℕ). starts ++ starts_from start ds) (sym none) ∙ h.begin
