-- What the loops over a host's calls keep.
use Rattle.std.proofs.Common.{◌≡◌, ℕ, ◌≤◌, List, [], length, take, ◌+◌, ◌-◌, ◌∙◌, refl, ap, sym, subst, drop, length-drop, ◌++◌, length-append, append_assoc, append-nil, arith}
use Rattle.std.proofs.Math.Seq.{take-add, take-length}
use Rattle.std.proofs.lemmas.List.{length-take-le, take_at}
use Rattle.host_io.specs.Slots.{SameSlots}
use Rattle.host_io.specs.World.{World, after_read, after_write, after_report}
use Rattle.host_io.proofs.Worlds.{after_read-none, after_read-twice, left-after_read, after_report-twice, after_write-twice}
use Rattle.host_io.specs.Calls.{Reads, HasGiven, HasReadFront}

-- the slots are as before
pub record SameRights (g g' r r' w w' : ℕ → Type 0) : Type 0 where
  pub given : SameSlots g g'
  pub may_read : SameSlots r r'
  pub may_write : SameSlots w w'

SameSlots-trans : (a b c : ℕ → Type 0) → SameSlots a b → SameSlots b c → SameSlots a c
SameSlots-trans a b c p q = λ n. (λ x. (p n).0 ((q n).0 x), λ x. (q n).1 ((p n).1 x))

pub SameRights-trans : (g g' g'' r r' r'' w w' w'' : ℕ → Type 0) → SameRights g g' r r' w w' → SameSlots g' g'' → SameSlots r' r'' → SameSlots w' w'' → SameRights g g'' r r'' w w''
SameRights-trans g g' g'' r r' r'' w w' w'' s p q t = record {
  given = SameSlots-trans g g' g'' s.given p;
  may_read = SameSlots-trans r r' r'' s.may_read q;
  may_write = SameSlots-trans w w' w'' s.may_write t;
}

-- done bytes were reported since old
pub record HasReported (tells tells' : Type 0) (old new : World) (before now done : ℕ) (bytes : List ℕ) : Type 0 where
  pub within : done ≤ length bytes
  pub told : tells → tells'
  pub front : tells → new ≡ after_report old (take done bytes)
  pub faults : now ≡ before

-- done bytes were written since old
pub record HasWritten (tells tells' : Type 0) (old new : World) (slot before now done : ℕ) (bytes : List ℕ) : Type 0 where
  pub within : done ≤ length bytes
  pub told : tells → tells'
  pub front : tells → new ≡ after_write old slot (take done bytes)
  pub faults : now ≡ before

-- of what is left there, `done` are left out first
further : (done k : ℕ) (bytes : List ℕ) → take done bytes ++ take k (take (length bytes - done) (drop done bytes)) ≡ take (done + k) bytes
further done k bytes =
    ap (λ (n : ℕ). take done bytes ++ take k (take n (drop done bytes))) (sym (length-drop done bytes))
    ∙ ap (λ (xs : List ℕ). take done bytes ++ take k xs) (take-length (drop done bytes))
    ∙ sym (take-add done k bytes)

pub after_report-further : (w0 w1 w2 : World) (bytes : List ℕ) (done k : ℕ) → w1 ≡ after_report w0 (take done bytes) → w2 ≡ after_report w1 (take k (take (length bytes - done) (drop done bytes))) → w2 ≡ after_report w0 (take (done + k) bytes)
after_report-further w0 w1 w2 bytes done k e f =
    f ∙ ap (λ (w : World). after_report w (take k (take (length bytes - done) (drop done bytes)))) e
    ∙ after_report-twice w0 (take done bytes) (take k (take (length bytes - done) (drop done bytes)))
    ∙ ap (after_report w0) (further done k bytes)

pub after_write-further : (w0 w1 w2 : World) (slot : ℕ) (bytes : List ℕ) (done k : ℕ) → w1 ≡ after_write w0 slot (take done bytes) → w2 ≡ after_write w1 slot (take k (take (length bytes - done) (drop done bytes))) → w2 ≡ after_write w0 slot (take (done + k) bytes)
after_write-further w0 w1 w2 slot bytes done k e f =
    f ∙ ap (λ (w : World). after_write w slot (take k (take (length bytes - done) (drop done bytes)))) e
    ∙ after_write-twice w0 slot (take done bytes) (take k (take (length bytes - done) (drop done bytes)))
    ∙ ap (after_write w0 slot) (further done k bytes)

-- what has come is a front of what was left, and all that was taken off
pub record Grown (old new : World) (slot : ℕ) (bytes : List ℕ) : Type 0 where
  pub there : length bytes ≤ length (old.left slot)
  pub front : bytes ≡ take (length bytes) (old.left slot)
  pub after : new ≡ after_read old slot (length bytes)

-- so many bytes were read from the slot since old, and given after those that were given before
pub record HasFed {A : Type 0} (tells tells' : Type 0) (old new : World) (slot before now max done : ℕ) (from to : A → List ℕ → Type 0) : Type 0 where
  pub bytes : List ℕ
  pub len : length bytes ≡ done
  pub fits : done ≤ max
  pub told : tells → tells'
  pub grown : tells → Grown old new slot bytes
  pub faults : now ≡ before
  pub given : (start : A) (front : List ℕ) → from start front → to start (front ++ bytes)

-- nothing was read yet
pub fed_none : {A : Type 0} (tells : Type 0) (old : World) (slot before max : ℕ) (from : A → List ℕ → Type 0) → HasFed tells tells old old slot before before max 0 from from
fed_none tells old slot before max from = record {
  bytes = [];
  len = refl;
  fits = omega arith;
  told = λ t. t;
  grown = λ t. record { there = omega arith; front = refl; after = sym (after_read-none old slot) };
  faults = refl;
  given = λ start front s. subst (from start) (sym (append-nil front)) s;
}

-- where nothing is left, all came
ended : (old mid : World) (slot : ℕ) (bytes : List ℕ) → Grown old mid slot bytes → mid.left slot ≡ [] → bytes ≡ old.left slot
ended old mid slot bytes grown none =
    let n : ℕ = length bytes in
    let xs : List ℕ = old.left slot in
    let left : mid.left slot ≡ drop n xs = ap (λ (w : World). w.left slot) grown.after ∙ left-after_read old slot n in
    let gone : length (drop n xs) ≡ 0 = ap length (sym left ∙ none) in
    let all : n ≡ length xs = omega (arith, gone, length-drop n xs, grown.there) in
    grown.front ∙ ap (λ (m : ℕ). take m xs) all ∙ take-length xs

pub grows : (old mid new : World) (slot : ℕ) (bytes more before after : List ℕ) (k : ℕ) → Grown old mid slot bytes → Reads mid new slot k before after → more ≡ bytes ++ take k after → Grown old new slot more
grows old mid new slot bytes more before after k grown read e =
    let n : ℕ = length bytes in
    let xs : List ℕ = old.left slot in
    let left : mid.left slot ≡ drop n xs = ap (λ (w : World). w.left slot) grown.after ∙ left-after_read old slot n in
    let room : k ≤ length (drop n xs) = omega (arith, read.within, ap length left) in
    let k_long : length (take k (drop n xs)) ≡ k = length-take-le k (drop n xs) room in
    let filled : after ≡ take k (drop n xs) ++ drop k before = read.front ∙ ap (λ (ys : List ℕ). take k ys ++ drop k before) left in
    let piece : take k after ≡ take k (drop n xs) = ap (take k) filled ∙ take_at (take k (drop n xs)) (drop k before) k k_long in
    let long : length more ≡ n + k = ap length e ∙ length-append bytes (take k after) ∙ ap (λ (m : ℕ). n + m) (ap length piece ∙ k_long) in
    record {
      there = omega (arith, length-drop n xs, grown.there);
      front = e ∙ ap (λ (ys : List ℕ). bytes ++ ys) piece ∙ ap (λ (ys : List ℕ). ys ++ take k (drop n xs)) grown.front ∙ sym (take-add n k xs) ∙ ap (λ (m : ℕ). take m xs) (sym long);
      after = read.after ∙ ap (λ (w : World). after_read w slot k) grown.after ∙ after_read-twice old slot n k ∙ ap (after_read old slot) (sym long);
    }

-- a read that gives nothing ends the file
pub all_given : {A : Type 0} (tells tells' : Type 0) (old mid new : World) (slot before now max done : ℕ) (from to : A → List ℕ → Type 0) (fed : HasFed tells tells' old mid slot before now max done from to) (filled after : List ℕ) (count : ℕ)
    → count ≡ 0 → (tells' → Reads mid new slot count filled after) → HasGiven max from to tells old new slot
all_given tells tells' old mid new slot before now max done from to fed filled after count zero reads = record {
  bytes = fed.bytes;
  fits = omega (arith, fed.len, fed.fits);
  all = λ t. ended old mid slot fed.bytes (fed.grown t) ((reads (fed.told t)).end zero);
  taken = λ t. (grows old mid new slot fed.bytes fed.bytes filled after count (fed.grown t) (reads (fed.told t)) (sym (append-nil fed.bytes) ∙ ap (λ (n : ℕ). fed.bytes ++ take n after) (sym zero))).after;
  given = fed.given;
}

-- a piece was read and given
pub fed_more : {A : Type 0} (tells tells' tells'' : Type 0) (old mid new : World) (slot before now later max done count : ℕ) (from to further : A → List ℕ → Type 0) (fed : HasFed tells tells' old mid slot before now max done from to) (filled after piece : List ℕ)
    → later ≡ now → (tells' → tells'') → (tells' → Reads mid new slot count filled after) → piece ≡ take count after → count ≤ length after → done + count ≤ max
    → ((start : A) (bytes : List ℕ) → to start bytes → further start (bytes ++ piece)) → HasFed tells tells'' old new slot before later max (done + count) from further
fed_more tells tells' tells'' old mid new slot before now later max done count from to further fed filled after piece same told reads is le room more = record {
  bytes = fed.bytes ++ piece;
  len = length-append fed.bytes piece ∙ ap (λ (n : ℕ). n + length piece) fed.len ∙ ap (λ (n : ℕ). done + n) (ap length is ∙ length-take-le count after le);
  fits = room;
  told = λ t. told (fed.told t);
  grown = λ t. grows old mid new slot fed.bytes (fed.bytes ++ piece) filled after count (fed.grown t) (reads (fed.told t)) (ap (λ (xs : List ℕ). fed.bytes ++ xs) is);
  faults = same ∙ fed.faults;
  given = λ start front s. subst (further start) (append_assoc front fed.bytes piece) (more start (front ++ fed.bytes) (fed.given start front s));
}

pub front_grows : (old mid new : World) (slot : ℕ) (bytes before after : List ℕ) (k : ℕ) → Grown old mid slot bytes → Reads mid new slot k before after → HasReadFront old new slot
front_grows old mid new slot bytes before after k grown read =
    let n : ℕ = length bytes in
    let left : mid.left slot ≡ drop n (old.left slot) = ap (λ (w : World). w.left slot) grown.after ∙ left-after_read old slot n in
    record {
      count = n + k;
      within = omega (arith, grown.there, read.within, ap length left, length-drop n (old.left slot));
      after = read.after ∙ ap (λ (w : World). after_read w slot k) grown.after ∙ after_read-twice old slot n k;
    }

-- what was given to a list that was empty
pub kept_all : {A : Type 0} (items : A → List ℕ) (first last : A) (max : ℕ) (tells : Type 0) (old new : World) (slot : ℕ) → items first ≡ []
    → HasGiven max (λ start bytes. items first ≡ items start ++ bytes) (λ start bytes. items last ≡ items start ++ bytes) tells old new slot
    → (length (items last) ≤ max) × (tells → items last ≡ old.left slot) × (tells → new ≡ after_read old slot (length (items last)))
kept_all items first last max tells old new slot none given =
    let is : items last ≡ given.bytes = given.given first [] (sym (append-nil (items first))) ∙ ap (λ (xs : List ℕ). xs ++ given.bytes) none in (
      subst (λ (xs : List ℕ). length xs ≤ max) (sym is) given.fits,
      (λ t. is ∙ given.all t),
      (λ t. given.taken t ∙ ap (λ (xs : List ℕ). after_read old slot (length xs)) (sym is)),
    )
