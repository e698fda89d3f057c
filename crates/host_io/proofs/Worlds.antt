-- One call after another.
use Rattle.std.proofs.Common.{◌≡◌, ◌==◌, ◌+◌, ℕ, List, [], drop, ◌++◌, Bool, true, false, cond, refl, ap, ◌∙◌, append_assoc, append-nil, Option, Some, None}
use Rattle.std.proofs.lemmas.List.{drop-drop}
use Rattle.std.proofs.lemmas.Bool.{eq-eqb}
use Rattle.std.specs.Option.{option_map}
use Rattle.std.specs.Prelude.{nat_eq}
use Rattle.std.specs.Cmp.Lexicographic.{pointwise}
use mathlib.Core.Path.{fun_ext}
use Rattle.host_io.specs.World.{World, with_slot, with_file, after_read, after_write, after_report}

changed_twice : {A : Type 0} (b : Bool) (x : A) (g h : A → A) → cond b (h (cond b (g x) x)) (cond b (g x) x) ≡ cond b (h (g x)) x
changed_twice true x g h = refl
changed_twice false x g h = refl

unchanged : {A : Type 0} (b : Bool) (x y : A) → y ≡ x → cond b y x ≡ x
unchanged true x y e = e
unchanged false x y e = refl

pub with_slot-twice : (f : ℕ → List ℕ) (s : ℕ) (g h : List ℕ → List ℕ) → with_slot (with_slot f s g) s h ≡ with_slot f s (λ x. h (g x))
with_slot-twice f s g h = fun_ext (λ n. changed_twice (n == s) (f n) g h)

pub with_file-twice : (f : List ℕ → Option (List ℕ)) (t : List ℕ) (g h : Option (List ℕ) → Option (List ℕ)) → with_file (with_file f t g) t h ≡ with_file f t (λ x. h (g x))
with_file-twice f t g h = fun_ext (λ n. changed_twice (pointwise nat_eq n t) (f n) g h)

pub with_slot-same : (f : ℕ → List ℕ) (s : ℕ) (g : List ℕ → List ℕ) → ((x : List ℕ) → g x ≡ x) → with_slot f s g ≡ f
with_slot-same f s g e = fun_ext (λ n. unchanged (n == s) (f n) (g (f n)) (e (f n)))

pub with_file-same : (f : List ℕ → Option (List ℕ)) (t : List ℕ) (g : Option (List ℕ) → Option (List ℕ)) → ((x : Option (List ℕ)) → g x ≡ x) → with_file f t g ≡ f
with_file-same f t g e = fun_ext (λ n. unchanged (pointwise nat_eq n t) (f n) (g (f n)) (e (f n)))

appended_twice : (xs ys : List ℕ) (o : Option (List ℕ)) → option_map (λ old. old ++ ys) (option_map (λ old. old ++ xs) o) ≡ option_map (λ old. old ++ (xs ++ ys)) o
appended_twice xs ys None = refl
appended_twice xs ys (Some old) = ap Some (append_assoc old xs ys)

appended_none : (o : Option (List ℕ)) → option_map (λ old. old ++ []) o ≡ o
appended_none None = refl
appended_none (Some old) = ap Some (append-nil old)

pub after_read-none : (w : World) (slot : ℕ) → after_read w slot 0 ≡ w
after_read-none w slot = ap (λ (f : ℕ → List ℕ). record w { left = f }) (with_slot-same w.left slot (drop 0) (λ x. refl))

pub after_read-twice : (w : World) (slot i k : ℕ) → after_read (after_read w slot i) slot k ≡ after_read w slot (i + k)
after_read-twice w slot i k =
    ap (λ (f : ℕ → List ℕ). record w { left = f })
    (with_slot-twice w.left slot (drop i) (drop k) ∙ ap (with_slot w.left slot) (fun_ext (λ (xs : List ℕ). drop-drop k i xs)))

pub after_report-none : (w : World) → after_report w [] ≡ w
after_report-none w = ap (λ (r : List ℕ). record w { reported = r }) (append-nil w.reported)

pub after_report-twice : (w : World) (xs ys : List ℕ) → after_report (after_report w xs) ys ≡ after_report w (xs ++ ys)
after_report-twice w xs ys = ap (λ (r : List ℕ). record w { reported = r }) (append_assoc w.reported xs ys)

pub after_write-none : (w : World) (slot : ℕ) → after_write w slot [] ≡ w
after_write-none w slot =
    ap (λ (f : List ℕ → Option (List ℕ)). record w { contents = f; written = with_slot w.written slot (λ old. old ++ []) }) (with_file-same w.contents (w.target slot) (option_map (λ old. old ++ [])) appended_none)
    ∙ ap (λ (f : ℕ → List ℕ). record w { written = f }) (with_slot-same w.written slot (λ old. old ++ []) append-nil)

pub after_write-twice : (w : World) (slot : ℕ) (xs ys : List ℕ) → after_write (after_write w slot xs) slot ys ≡ after_write w slot (xs ++ ys)
after_write-twice w slot xs ys =
    ap (λ (f : List ℕ → Option (List ℕ)). record w { contents = f; written = with_slot (with_slot w.written slot (λ old. old ++ xs)) slot (λ old. old ++ ys) })
    (with_file-twice w.contents (w.target slot) (option_map (λ old. old ++ xs)) (option_map (λ old. old ++ ys)) ∙ ap (with_file w.contents (w.target slot)) (fun_ext (appended_twice xs ys)))
    ∙ ap (λ (f : ℕ → List ℕ). record w { contents = with_file w.contents (w.target slot) (option_map (λ old. old ++ (xs ++ ys))); written = f })
    (with_slot-twice w.written slot (λ old. old ++ xs) (λ old. old ++ ys) ∙ ap (with_slot w.written slot) (fun_ext (λ (old : List ℕ). append_assoc old xs ys)))

pub left-after_read : (w : World) (slot k : ℕ) → (after_read w slot k).left slot ≡ drop k (w.left slot)
left-after_read w slot k = let same : (slot == slot) ≡ true = eq-eqb slot slot refl in rw same refl
