-- The namespaces of a tree and of the outline that it is the meaning of.
use Rattle.std.proofs.Common.{ℕ, zero, suc, ◌≡◌, ◌<◌, ◌≤◌, ◌+◌, List, [], ◌∷◌, length, map, Bool, Option, Some, None, All, arith, ◌⊎◌, inl, inr, refl, sym, ap, ◌∙◌, subst}
use Rattle.std.proofs.lemmas.List.{length-map}
use Rattle.std.proofs.lemmas.Bool.{cases_lt}
use Rattle.std.proofs.Math.ListN.{get_or}
use Rattle.pil_ast.specs.declared.tree.Space.{Space}
use Rattle.pil_ast.specs.Tree.{namespace, line}
use Rattle.pil_ast.specs.Term.{Line, Namespace, space_at}
use Rattle.pil_ast.specs.Sound.{IsAcyclic}
use Rattle.pil_ast.specs.Order.{NamesInside}
use Rattle.pil_cycles.specs.Cycles.{IsOnCycle, DependsOn, on_named, on_deeper, TellCycles}
use Rattle.pil_names.specs.declared.outline.Home as H
use Rattle.pil_names.specs.Outline.{Outline, home_at, draft_at}
use Rattle.pil_names.specs.Least.{lesser}
use Rattle.pil_names.specs.Shown.{draft, home}
use Rattle.pil_meaning.specs.Meaning.{meaning, read_draft}
use Rattle.pil_meaning.specs.Closed.{IsClosed}
use Rattle.pil_meaning.specs.Marks.{AreWritable, IsWritable}
use Rattle.pil_meaning.specs.Standing.{IsReading}
use Rattle.pil_text.specs.Refusal.{IsCyclic, IsCyclicIn, place_of}
use Rattle.pil_text.specs.Cyclic.{IsLeastOf, IsFlagged, IsCyclicBelow}
use Rattle.pil_text.proofs.Cyclic.{home_told, home_more, least_same}

space_here : (spaces : List Space) (s : ℕ) (x : Space) → s < length spaces → x ≡ get_or spaces s x → (space_at (map namespace spaces) s).items ≡ map line x.items
space_here [] s x l e = absurd (omega (arith, l))
space_here (y ∷ ys) zero x l e = ap (λ (z : Space). map line z.items) (sym e)
space_here (y ∷ ys) (suc s) x l e = space_here ys s x (omega (arith, l)) e

home_here : (hs : List H.Home) (s : ℕ) (x : H.Home) → s < length hs → x ≡ get_or hs s x → (home_at (map home hs) s).items ≡ map draft x.items
home_here [] s x l e = absurd (omega (arith, l))
home_here (y ∷ ys) zero x l e = ap (λ (z : H.Home). map draft z.items) (sym e)
home_here (y ∷ ys) (suc s) x l e = home_here ys s x (omega (arith, l)) e

all_at : (P : Namespace → Type 0) (ns : List Namespace) (s : ℕ) → All P ns → s < length ns → P (space_at ns s)
all_at P [] s h l = absurd (omega (arith, l))
all_at P (n ∷ ns) zero h l = h 0 n l
all_at P (n ∷ ns) (suc s) h l = all_at P ns s (λ k d m. h (suc k) d (omega (arith, m))) (omega (arith, l))

no_items_past : (ns : List Namespace) (s : ℕ) → length ns ≤ s → (space_at ns s).items ≡ []
no_items_past [] s l = refl
no_items_past (n ∷ ns) zero l = absurd (omega (arith, l))
no_items_past (n ∷ ns) (suc s) l = no_items_past ns s (omega (arith, l))

module _ (o : Outline) (reading : IsReading o (meaning o)) (hs : List H.Home) (spaces : List Space) (homes : o.homes ≡ map home hs) (meant : map namespace spaces ≡ meaning o) where
  pub as_many : length spaces ≡ length hs
  as_many = sym (length-map spaces namespace) ∙ ap length meant ∙ reading.long ∙ ap length homes ∙ length-map hs home

  pub items_here : (s : ℕ) (x : Space) → s < length hs → x ≡ get_or spaces s x → (space_at (meaning o) s).items ≡ map line x.items
  items_here s x l e = ap (λ ns. (space_at ns s).items) (sym meant) ∙ space_here spaces s x (omega (arith, l, as_many)) e

  pub drafts_here : (s : ℕ) (h : H.Home) → s < length hs → h ≡ get_or hs s h → (home_at o.homes s).items ≡ map draft h.items
  drafts_here s h l e = ap (λ xs. (home_at xs s).items) homes ∙ home_here hs s h l e

  many_homes : length o.homes ≡ length hs
  many_homes = ap length homes ∙ length-map hs home

  pub same_count : (s : ℕ) (x : Space) (h : H.Home) → s < length hs → x ≡ get_or spaces s x → h ≡ get_or hs s h → length x.items ≡ length h.items
  same_count s x h l at_space at_home =
      sym (length-map x.items line) ∙ ap length (sym (items_here s x l at_space))
      ∙ ap length (reading.items s (omega (arith, l, many_homes))) ∙ length-map (home_at o.homes s).items (read_draft o s)
      ∙ ap length (drafts_here s h l at_home) ∙ length-map h.items draft

  pub closed_here : (s : ℕ) (x : Space) → All (λ n. IsClosed n.items) (meaning o) → s < length hs → x ≡ get_or spaces s x → IsClosed (map line x.items)
  closed_here s x closed l e =
      let inside : s < length (meaning o) = omega (arith, l, reading.long, many_homes) in
      subst IsClosed (items_here s x l e) (all_at (λ n. IsClosed n.items) (meaning o) s closed inside)

  -- one more namespace, as the loop has it
  pub home_found : (s : ℕ) (x : Space) (h : H.Home) (flags : List Bool) (found here now : Option ℕ) → s < length hs → x ≡ get_or spaces s x → h ≡ get_or hs s h → TellCycles (map line x.items) flags → IsLeastOf (IsFlagged (map draft h.items) flags (length h.items)) here → now ≡ lesser found here → IsLeastOf (IsCyclicBelow o s) found → IsLeastOf (IsCyclicBelow o (s + 1)) now
  home_found s x h flags found here now l at_space at_home tells flagged e p =
      let told : IsLeastOf (IsCyclicIn o s) here = home_told o s (length h.items) flags here (subst (λ ls. TellCycles ls flags) (sym (items_here s x l at_space)) tells) (sym (same_count s x h l at_space at_home) ∙ sym (length-map x.items line) ∙ sym tells.long) (subst (λ ds. IsLeastOf (IsFlagged ds flags (length h.items)) here) (sym (drafts_here s h l at_home)) flagged) in
      subst (IsLeastOf (IsCyclicBelow o (s + 1))) (sym e) (home_more o s found here p told)

  names_nothing : (k b : ℕ) → DependsOn [] k b → ⊥
  names_nothing k b (on_named i j n) = n
  names_nothing k b (on_deeper i j m n d) = n

  inside_only : (s at : ℕ) → IsCyclicIn o s at → s < length hs
  inside_only s at c = by (cases_lt s (length hs))
    where
      by : (s < length hs) ⊎ (length hs ≤ s) → s < length hs
      by (inl l) = l
      by (inr l) = absurd (names_nothing c.item c.item (subst (λ ls. DependsOn ls c.item c.item) (no_items_past (meaning o) s (omega (arith, l, reading.long, many_homes))) c.cycle))

  pub all_found : (n : ℕ) (found : Option ℕ) → length hs ≤ n → IsLeastOf (IsCyclicBelow o n) found → IsLeastOf (IsCyclic o) found
  all_found n found l p = least_same (IsCyclicBelow o n) (IsCyclic o) found (λ at f. (f.space, f.inside)) (λ at c. record { space = c.0; below = let k = inside_only c.0 at c.1 in omega (arith, l, k); inside = c.1 }) p

-- no intermediate depends on itself, where the search found no place
pub none_cyclic : (o : Outline) (found : Option ℕ) → found ≡ None → IsLeastOf (IsCyclic o) found → (at : ℕ) → IsCyclic o at → ⊥
none_cyclic o found none p = subst (IsLeastOf (IsCyclic o)) none p

pub cyclic_at : (o : Outline) (found : Option ℕ) (m : ℕ) → found ≡ Some m → IsLeastOf (IsCyclic o) found → IsCyclic o m
cyclic_at o found m is p = (subst (IsLeastOf (IsCyclic o)) is p).0

pub cyclic_least : (o : Outline) (found : Option ℕ) (m : ℕ) → found ≡ Some m → IsLeastOf (IsCyclic o) found → (at : ℕ) → IsCyclic o at → m ≤ at
cyclic_least o found m is p = (subst (IsLeastOf (IsCyclic o)) is p).1

pub no_cycle : (o : Outline) → ((at : ℕ) → IsCyclic o at → ⊥) → (s k : ℕ) → IsOnCycle (space_at (meaning o) s).items k → ⊥
no_cycle o none s k c = none (place_of (draft_at (home_at o.homes s).items k)) (s, record { item = k; cycle = c; place = refl })

space_get : (ns : List Namespace) (s : ℕ) (d : Namespace) → s < length ns → space_at ns s ≡ get_or ns s d
space_get [] s d l = absurd (omega (arith, l))
space_get (n ∷ ns) zero d l = refl
space_get (n ∷ ns) (suc s) d l = space_get ns s d (omega (arith, l))

pub writable : (o : Outline) → All (λ n. IsClosed n.items) (meaning o) → ((items : List Line) → NamesInside items → ((k : ℕ) → ¬ IsOnCycle items k) → IsAcyclic items) → ((at : ℕ) → IsCyclic o at → ⊥) → AreWritable (meaning o)
writable o closed ranked none s d l =
    let here : IsClosed (get_or (meaning o) s d).items = closed s d l in
    let cycles : (k : ℕ) → ¬ IsOnCycle (get_or (meaning o) s d).items k = subst (λ n. (k : ℕ) → ¬ IsOnCycle n.items k) (space_get (meaning o) s d l) (no_cycle o none s) in
    record { few = here.few; inside = here.inside; acyclic = ranked (get_or (meaning o) s d).items here.inside cycles }

-- and each namespace is ranked, also one that isn't there
pub all_ranked : (o : Outline) → AreWritable (meaning o) → (s : ℕ) → IsAcyclic (space_at (meaning o) s).items
all_ranked o all s = by (cases_lt s (length (meaning o)))
  where
    by : (s < length (meaning o)) ⊎ (length (meaning o) ≤ s) → IsAcyclic (space_at (meaning o) s).items
    by (inl l) = (all_at (λ n. IsWritable n.items) (meaning o) s all l).acyclic
    by (inr l) = subst IsAcyclic (sym (no_items_past (meaning o) s l)) ((λ k. 0), record { bounded = λ k. omega arith; falling = λ k. tt })
