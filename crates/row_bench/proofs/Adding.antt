-- One chunk more.
use Rattle.std.proofs.Common.{◌≡◌, ◌+◌, ◌*◌, ◌<◌, ◌^◌, ℕ, List, [], ◌∷◌, ◌++◌, length, ap, sym, ◌∙◌, subst, arith}
use Rattle.std.specs.Prelude.{All}
use Rattle.std.specs.Arc.{arc_value}
use Rattle.std.specs.declared.sync.Arc.{Arc}
use Rattle.std.specs.declared.alloc.Global.{Global}
use Rattle.std.proofs.lemmas.List.{map_push}
use Rattle.std.proofs.lemmas.List.Elements.{All-push, All-same}
use Rattle.std.proofs.lemmas.List.FromFn.{length-map-range_with_len}
use Rattle.rv_model.specs.Image.{Img}
use Rattle.min_trace.specs.Chunk.{Piece, IsChunk, first_step}
use Rattle.min_trace.specs.Record.{records_between}
use Rattle.planner.specs.declared.counts.Counts.{Counts}
use Rattle.planner.specs.declared.job.Job.{Job}
use Rattle.planner.specs.Rows.{counted}
use Rattle.planner.specs.Jobs.{added, handed}
use Rattle.run_rows.specs.Runs.{chunks_of, records_in, chunks_to, counts_to, values_of}
use Rattle.rv_emu.specs.Answered.{Place, IsWhole}
use Rattle.row_bench.specs.declared.progress.Progress.{Progress}
use Rattle.row_bench.specs.Progress.{IsAt}

abbrev pub Shared : Type 0
Shared = Arc Piece Global

-- there is room for a chunk's counts
pub room : (image : Img) (c : Piece) (given : List Counts) → IsChunk image c → given ≡ counts_to image (first_step c.number) → length given < 2 ^ 22
room image c given is g =
    let long : length given ≡ chunks_of (1024 * c.number) = ap (length {A = Counts}) g ∙ length-map-range_with_len (λ k. counted (records_in image (1024 * c.number) k)) 0 (chunks_of (1024 * c.number)) in
    omega (arith, is.number)

pub values_pushed : (old new : List Shared) (a : Shared) (c : Piece) → new ≡ old ++ a ∷ [] → arc_value a ≡ c → values_of new ≡ values_of old ++ c ∷ []
values_pushed old new a c e is =
    let v : Shared → Piece = λ x. arc_value x in
    ap values_of e ∙ map_push v old a ∙ ap (λ x. values_of old ++ x ∷ []) is

-- what run_rows' and planner's laws say of one chunk more
abbrev pub ChunksMore : Type 0
ChunksMore = (image : Img) (c : Piece) → IsChunk image c → chunks_to image (first_step c.number + c.steps) ≡ chunks_to image (first_step c.number) ++ c ∷ []

abbrev pub CountsMore : Type 0
CountsMore = (image : Img) (c : Piece) → IsChunk image c → counts_to image (first_step c.number + c.steps) ≡ counts_to image (first_step c.number) ++ counted (records_between image (first_step c.number) c.steps) ∷ []

abbrev pub HandedMore : Type 0
HandedMore = (counts : List Counts) (c : Counts) → handed [] (counts ++ c ∷ []) ≡ handed [] counts ++ added counts c

pub chunks_more : ChunksMore → (image : Img) (c : Piece) (old new : List Shared) (a : Shared) → IsChunk image c → values_of old ≡ chunks_to image (first_step c.number) → new ≡ old ++ a ∷ [] → arc_value a ≡ c → values_of new ≡ chunks_to image (first_step c.number + c.steps)
chunks_more law image c old new a is known e v = values_pushed old new a c e v ∙ ap (λ xs. xs ++ c ∷ []) known ∙ sym (law image c is)

pub each_more : (image : Img) (c : Piece) (old new : List Shared) (a : Shared) → IsChunk image c → All (IsChunk image) (values_of old) → new ≡ old ++ a ∷ [] → arc_value a ≡ c → All (IsChunk image) (values_of new)
each_more image c old new a is all e v = All-same (IsChunk image) (values_of new) (values_of old ++ c ∷ []) (values_pushed old new a c e v) (All-push (IsChunk image) (values_of old) c all is)

pub counts_more : CountsMore → (image : Img) (c : Piece) (old new : List Counts) (k : Counts) → IsChunk image c → old ≡ counts_to image (first_step c.number) → k ≡ counted (records_between image (first_step c.number) c.steps) → new ≡ old ++ k ∷ [] → new ≡ counts_to image (first_step c.number + c.steps)
counts_more law image c old new k is known e n = n ∙ ap (λ xs. xs ++ k ∷ []) known ∙ ap (λ x. counts_to image (first_step c.number) ++ x ∷ []) e ∙ sym (law image c is)

pub jobs_more : HandedMore → (old new : List Counts) (k : Counts) (before after more : List Job) → before ≡ handed [] old → more ≡ added old k → after ≡ before ++ more → new ≡ old ++ k ∷ [] → after ≡ handed [] new
jobs_more law old new k before after more b m a n = a ∙ ap (λ xs. xs ++ more) b ∙ ap (λ xs. handed [] old ++ xs) m ∙ sym (law old k) ∙ ap (handed []) (sym n)

-- after a chunk that leads on, the emulator stands behind it
pub stepped : (image : Img) (old new : Place) (c : Piece) (p : Progress) → IsWhole old c → new ≡ record { image = old.image; limit = old.limit; number = old.number + 1 } → IsAt image (first_step c.number + c.steps) p → IsAt image (first_step new.number) p
stepped image old new c p is e at =
    let number : new.number ≡ old.number + 1 = ap (λ (q : Place). q.number) e in
    let same : first_step c.number + c.steps ≡ first_step new.number = omega (arith, is.number, is.steps) in
    let P : ℕ → Type 0 = λ n. IsAt image n p in
    subst P same at
