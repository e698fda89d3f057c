-- The steps of a replay that have a row, one step on.
use Rattle.std.proofs.Common.{◌≡◌, ◌+◌, ◌<◌, ◌≤◌, ℕ, true, false, List, [], ◌∷◌, ◌++◌, length, get_or, drop, map, refl, ap, sym, ◌∙◌, subst, arith, append_assoc}
use Rattle.std.specs.Prelude.{All}
use Rattle.std.specs.Arc.{arc_value}
use Rattle.std.specs.declared.sync.Arc.{Arc}
use Rattle.std.specs.declared.alloc.Global.{Global}
use Rattle.std.proofs.lemmas.List.{append-nil, drop_more, drop_all, get_or-map, length-map, map-append}
use Rattle.std.proofs.lemmas.List.Elements.{All-get_or}
use Rattle.zk_layout.specs.declared.air.Air.{Air}
use Rattle.rv_model.specs.Image.{Img}
use Rattle.min_trace.specs.Chunk.{Piece, IsChunk}
use Rattle.min_trace.specs.declared.record.StepRecord.{StepRecord}
use Rattle.planner.specs.Rows.{has_row, with_row}
use Rattle.planner.specs.declared.job.Part.{Part}
use Rattle.run_rows.specs.Gathered.{named_in, all_named}
use Rattle.run_rows.specs.Runs.{values_of}

pub skipped : (air : Air) (old new all : List StepRecord) (r : StepRecord) → old ≡ r ∷ new → has_row air r ≡ false → with_row air old ≡ all → with_row air new ≡ all
skipped air old new all r e off h =
    let one : with_row air (r ∷ new) ≡ with_row air new = rw off refl in
    sym one ∙ ap (with_row air) (sym e) ∙ h

pub met : (air : Air) (old new all : List StepRecord) (r : StepRecord) → old ≡ r ∷ new → has_row air r ≡ true → with_row air old ≡ all → all ≡ r ∷ with_row air new
met air old new all r e on h =
    let one : with_row air (r ∷ new) ≡ r ∷ with_row air new = rw on refl in
    sym h ∙ ap (with_row air) e ∙ one

pub none_left : (air : Air) (old all : List StepRecord) → old ≡ [] → with_row air old ≡ all → all ≡ []
none_left air old all e h = sym h ∙ ap (with_row air) e

-- the chunk at a place of the shared ones
pub chunk_at : (image : Img) (chunks : List (Arc Piece Global)) (i n : ℕ) (c : Arc Piece Global) (d : Piece) → i < n → length chunks ≡ n → c ≡ get_or chunks i c → d ≡ arc_value c → All (IsChunk image) (values_of chunks) → IsChunk image d
chunk_at image chunks i n c d lt l at is all =
    let inside : i < length (values_of chunks) = omega (arith, length-map chunks (λ (x : Arc Piece Global). arc_value x)) in
    let e : get_or (values_of chunks) i d ≡ d = get_or-map (λ (x : Arc Piece Global). arc_value x) chunks i c d (omega arith) ∙ ap (λ (x : Arc Piece Global). arc_value x) (sym at) ∙ sym is in
    let P : Piece → Type 0 = IsChunk image in
    subst P e (All-get_or (IsChunk image) (values_of chunks) i d inside all)

-- one more part was taken
pub part_taken : {T : Type 0} (f : StepRecord → T) (air : Air) (image : Img) (parts : List Part) (chunks : List (Arc Piece Global)) (i : ℕ) (p q : Part) (c : Arc Piece Global) (d : Piece) (found more all : List T) → i < length parts → length chunks ≡ length parts
    → p ≡ get_or parts i q → c ≡ get_or chunks i c → d ≡ arc_value c → more ≡ found ++ map f (named_in air image p d)
    → found ++ map f (all_named air image (drop i parts) (drop i (values_of chunks))) ≡ all → more ++ map f (all_named air image (drop (i + 1) parts) (drop (i + 1) (values_of chunks))) ≡ all
part_taken f air image parts chunks i p q c d found more all lt l pat cat is m h =
    let inside : i < length (values_of chunks) = omega (arith, length-map chunks (λ (x : Arc Piece Global). arc_value x)) in
    let e : get_or (values_of chunks) i d ≡ d = get_or-map (λ (x : Arc Piece Global). arc_value x) chunks i c d (omega arith) ∙ ap (λ (x : Arc Piece Global). arc_value x) (sym cat) ∙ sym is in
    let ps : drop i parts ≡ p ∷ drop (i + 1) parts = drop_more parts i q lt ∙ ap (λ z. z ∷ drop (i + 1) parts) (sym pat) in
    let cs : drop i (values_of chunks) ≡ d ∷ drop (i + 1) (values_of chunks) = drop_more (values_of chunks) i d inside ∙ ap (λ z. z ∷ drop (i + 1) (values_of chunks)) e in
    let others : List StepRecord = all_named air image (drop (i + 1) parts) (drop (i + 1) (values_of chunks)) in
    let one : all_named air image (drop i parts) (drop i (values_of chunks)) ≡ named_in air image p d ++ others =
    ap (λ xs. all_named air image xs (drop i (values_of chunks))) ps ∙ ap (λ xs. all_named air image (p ∷ drop (i + 1) parts) xs) cs in
    ap (λ zs. zs ++ map f others) m ∙ append_assoc found (map f (named_in air image p d)) (map f others) ∙ ap (λ zs. found ++ zs) (sym (ap (map f) one ∙ map-append f (named_in air image p d) others)) ∙ h

pub parts_done : {T : Type 0} (f : StepRecord → T) (air : Air) (image : Img) (parts : List Part) (chunks : List Piece) (i : ℕ) (found all : List T) → length parts ≤ i → found ++ map f (all_named air image (drop i parts) (drop i chunks)) ≡ all → found ≡ all
parts_done f air image parts chunks i found all le h =
    sym (append-nil found) ∙ ap (λ zs. found ++ map f (all_named air image zs (drop i chunks))) (sym (drop_all i parts le)) ∙ h
