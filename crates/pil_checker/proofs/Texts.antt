-- The lines of a text that names no public.
use Rattle.std.proofs.Common.{ℕ, suc, ◌≡◌, Bool, true, false, cond, List, [], ◌∷◌, Some, slice_get, All}
use Rattle.std.specs.Prelude.{filter}
use Rattle.std.proofs.lemmas.Bool.{false≢true}
use Rattle.std.proofs.lemmas.List.Elements.{All-nil, All-cons, All-append}
use Rattle.pil_ast.specs.Term.{Tuples, Line, constant, commit, inter, published, identity, lookup, bus, Namespace, item_at, is_line}
use Rattle.pil_ast.specs.Sound.{IsItem, IsSound, IsList}
use Rattle.pil_ast.specs.Holds.{lines}
use Rattle.pil_laws.proofs.Lines.{line-found}
use Rattle.pil_program.specs.Publics.{NoneInList, NoneInItem, NoneIsNamed}
use Rattle.pil_checker.specs.Programs.{IsPlain}
use Rattle.pil_checker.specs.Plans.{IsLineOf}
use Rattle.pil_checker.proofs.Elements.{found-all}

free-items : (ls : List Line) → ((k : ℕ) → NoneInItem (item_at ls k)) → All NoneInItem (filter is_line ls)
free-items [] h = All-nil NoneInItem
free-items (l ∷ ls) h = kept (is_line l) (free-items ls (λ k. h (suc k)))
  where
    kept : (b : Bool) → All NoneInItem (filter is_line ls) → All NoneInItem (cond b (l ∷ filter is_line ls) (filter is_line ls))
    kept true more = All-cons NoneInItem l (filter is_line ls) (h 0) more
    kept false more = more

free-lines : (ns : List Namespace) → NoneIsNamed ns → All NoneInItem (lines ns)
free-lines [] h = All-nil NoneInItem
free-lines (n ∷ ns) h = All-append NoneInItem (filter is_line n.items) (lines ns) (free-items n.items (h 0)) (free-lines ns (λ s. h (suc s)))

plain : (ns : List Namespace) (wide : ℕ) (a : Tuples) → IsList ns wide a → NoneInList a → IsPlain ns a
plain ns wide a h free = record { space = h.space; sel = h.sel; terms = h.terms; unnamed = free }

line-of : (ns : List Namespace) (s : ℕ) (l : Line) → IsItem ns s l → is_line l ≡ true → NoneInItem l → IsLineOf ns l
line-of ns s (constant n len) h e free = absurd (false≢true e)
line-of ns s (commit n len) h e free = absurd (false≢true e)
line-of ns s (inter n t) h e free = absurd (false≢true e)
line-of ns s (published n m k r) h e free = absurd (false≢true e)
line-of ns s (identity m a b) h e free = (h.0, h.1, h.2, free.0, free.1)
line-of ns s (lookup a b) h e free = (plain ns h.0 a h.2 free.0, plain ns h.0 b h.3 free.1)
line-of ns s (bus ls rs) h e free = (λ k d l. plain ns h.0 _ (h.4 k d l) (free.0 k d l), λ k d l. plain ns h.0 _ (h.5 k d l) (free.1 k d l))

-- a line that is found is one of the text
pub line-is : (ns : List Namespace) (k : ℕ) (l : Line) → IsSound ns → NoneIsNamed ns → slice_get (lines ns) k ≡ Some l → IsLineOf ns l
line-is ns k l sound unnamed is =
    let some = line-found ns k l sound is in
    line-of ns some.space l some.item some.line (found-all NoneInItem (lines ns) k l (free-lines ns unnamed) is)
