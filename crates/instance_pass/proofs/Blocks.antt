-- What the values of a block say of the lines and the parts.
use Rattle.std.proofs.Common.{ℕ, ◌+◌, ◌<◌, ◌≡◌, ◌↔◌, List, ◌++◌, length, get_or, flat_map, sym, ◌∙◌, ap, subst, arith, append_assoc, All}
use Rattle.std.specs.List.{range_with_len}
use Rattle.std.proofs.lemmas.Option.{slice_get-get_or}
use Rattle.pil_ast.specs.Term.{Tuples, Namespace, item_at}
use Rattle.pil_ast.specs.Columns.{Columns}
use Rattle.pil_ast.specs.Holds.{row_sent, lines}
use Rattle.pil_laws.proofs.Ranges.{ranges_same, range_split}
use Rattle.pil_program.specs.declared.nodes.Node.{Node}
use Rattle.pil_program.specs.Program.{AreValues}
use Rattle.instance_pass.specs.declared.checks.Check.{Check}
use Rattle.instance_pass.specs.declared.checks.Check.TheVariants.{Nothing}
use Rattle.instance_pass.specs.declared.parts.Part.{Part}
use Rattle.instance_pass.specs.declared.senders.Sender.{Sender}
use Rattle.instance_pass.specs.Senders.{sent_by, IsSenderIn, IsSenderOf}
use Rattle.instance_pass.specs.Parts.{IsPartIn, Takes}
use Rattle.instance_pass.specs.Passes.{AsksNth, Says, AreChecksOf, AreTabled, TakesRows, AtEach}
use Rattle.instance_pass.proofs.Reading.{asked-says, says-asked, sent-is}

-- the checks of lines ask what the lines say
pub asks-same : (ns : List Namespace) (c : Columns) (s i r : ℕ) (nodes : ℕ → List Node) (tables : List (List (List ℕ))) (v : ℕ → ℕ) (n : ℕ) (checks : List Check) → AreValues c s i r (nodes s) (length (nodes s)) v
    → AreChecksOf ns nodes n checks → AreTabled ns c tables checks → (k : ℕ) → k < length checks → AsksNth tables s checks k v ↔ Says ns c s i k r
asks-same ns c s i r nodes tables v n checks known are tabled k l = (
  λ asks. let is = slice_get-get_or checks k Nothing l in
      asked-says ns c s i r nodes tables v known n (get_or checks k Nothing) (item_at (lines ns) k) (are.each k (get_or checks k Nothing) is) (tabled k (get_or checks k Nothing) is) (asks (get_or checks k Nothing) is),
  λ says check is. says-asked ns c s i r nodes tables v known n check (item_at (lines ns) k) (are.each k check is) (tabled k check is) says,
)

-- the tuples of one more block of rows
pub lanes-sent : (ns : List Namespace) (c : Columns) (a : Tuples) (y : Sender) (i m count : ℕ) (nodes : List Node) (x : ℕ → ℕ → ℕ) (start old new : List (List ℕ)) → IsSenderOf ns nodes a y → ((j : ℕ) → j < count → AreValues c a.space i (m + j) nodes (length nodes) (x j))
    → old ≡ start ++ flat_map (row_sent ns c a i) (range_with_len 0 m) → new ≡ old ++ flat_map (λ j. sent_by (x j) y) (range_with_len 0 count) → new ≡ start ++ flat_map (row_sent ns c a i) (range_with_len 0 (m + count))
lanes-sent ns c a y i m count nodes x start old new of known before more =
    let lanes : flat_map (λ j. sent_by (x j) y) (range_with_len 0 count) ≡ flat_map (row_sent ns c a i) (range_with_len (0 + m) count) =
    ranges_same (λ j. sent_by (x j) y) (row_sent ns c a i) count 0 (0 + m)
    (λ j l. ap (λ k. sent_by (x k) y) (omega arith) ∙ sent-is ns c a y i (m + j) nodes (x j) of (known j l) ∙ ap (row_sent ns c a i) (omega arith)) in
    more ∙ ap (λ ts. ts ++ flat_map (λ j. sent_by (x j) y) (range_with_len 0 count)) before ∙ ap (λ ts. (start ++ flat_map (row_sent ns c a i) (range_with_len 0 m)) ++ ts) lanes
    ∙ append_assoc start (flat_map (row_sent ns c a i) (range_with_len 0 m)) (flat_map (row_sent ns c a i) (range_with_len (0 + m) count)) ∙ ap (λ ts. start ++ ts) (sym (range_split (row_sent ns c a i) m 0 count))

-- one more block of rows
pub rows-taken : (ns : List Namespace) (c : Columns) (s i m count : ℕ) (nodes : List Node) (x : ℕ → ℕ → ℕ) → ((j : ℕ) → j < count → AreValues c s i (m + j) nodes (length nodes) (x j))
    → (p q r : Part) → TakesRows ns c s i m nodes p q → Takes s (flat_map (λ j. sent_by (x j) q.sender) (range_with_len 0 count)) q r → TakesRows ns c s i (m + count) nodes p r
rows-taken ns c s i m count nodes x known p q r f g = record {
  sender = g.sender ∙ f.sender;
  elsewhere = λ ne. g.elsewhere (λ e. ne (sym (ap (λ y. y.space) f.sender) ∙ e)) ∙ f.elsewhere ne;
  here = λ a of e.
      let at : q.sender.space ≡ s = ap (λ y. y.space) f.sender ∙ of.space ∙ e in
      lanes-sent ns c a q.sender i m count nodes x p.tuples q.tuples r.tuples (subst (IsSenderOf ns nodes a) (sym f.sender) of)
      (λ j l. subst (λ z. AreValues c z i (m + j) nodes (length nodes) (x j)) (sym e) (known j l)) (f.here a of e) (g.here at);
}

-- the steps of parts stay where they are
pub parts-inside : (s m : ℕ) (more : Part → List (List ℕ)) (old new : List Part) → AtEach (λ p q. Takes s (more p) p q) old new → All (IsPartIn s m) old → All (IsPartIn s m) new
parts-inside s m more old new h all k d l =
    let a = h.long in
    let q : Part = get_or new k d in
    let p : Part = get_or old k d in
    let takes = h.each k p q (slice_get-get_or old k d (omega arith)) (slice_get-get_or new k d l) in
    subst (λ y. y.space ≡ s → IsSenderIn m y) (sym takes.sender) (all k d (omega arith))
