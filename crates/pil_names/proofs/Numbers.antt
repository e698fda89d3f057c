-- What a map of names has after a new name.
use Rattle.std.proofs.Common.{◌≡◌, ◌∙◌, refl, sym, ap, subst, ℕ, List, [], ◌∷◌, ◌++◌, arith}
use Rattle.std.specs.Prelude.{Bool, true, false, Option, Some, None, is_some, bytes_eq, if◌then◌else◌}
use Rattle.std.specs.Cmp.{eq_by_cmp_equiv}
use Rattle.std.specs.Cmp.Lexicographic.{slice_cmp, bytes_decides, nat_list_cmp_total, nat_list_eq_equiv}
use Rattle.std.specs.Map.{lookup, IsKeyTest, AreApart, KeepsOthers}
use Rattle.std.specs.Ordering.{is_eq, nat_cmp}
use Rattle.std.specs.BTreeMap.{UpdatesBy}
use Rattle.std.proofs.lemmas.Bool.{cases_Bool}
use Rattle.std.proofs.lemmas.Map.Text.{is_eq-slice_cmp}
use mathlib.Core.Logic.{⊎_elim}
use Rattle.pil_names.specs.Finding.{Entry, found}
use Rattle.pil_names.specs.declared.names.Names.{Names}
use Rattle.pil_names.specs.Directory.{number_of, Lists, Adds}

apart : (bs cs ks : List ℕ) → bytes_eq bs cs ≡ false → is_eq (slice_cmp nat_cmp bs ks) ≡ true → is_eq (slice_cmp nat_cmp cs ks) ≡ false
apart bs cs ks n y = is_eq-slice_cmp cs ks ∙ nat_list_eq_equiv.symm cs ks ∙ sym (nat_list_eq_equiv.congr bs ks cs (sym (is_eq-slice_cmp bs ks) ∙ y)) ∙ n

module _ {K X : Type 0} (eq : K → K → Bool) (test : K → Bool) where
  other_entries : (old new : List (K × X)) → KeepsOthers eq test old new → (other : K → Bool) → IsKeyTest eq other → AreApart test other → lookup other new ≡ lookup other old
  unfolding KeepsOthers
  other_entries old new h = h

-- what is changed at the bytes bs leaves the other names' numbers
pub numbers-after : (m n : Names) (bs : List ℕ) (w : Option ℕ) → UpdatesBy (λ x y. slice_cmp nat_cmp x.items y.items) (λ k. slice_cmp nat_cmp bs k.items) m.numbers n.numbers w
    → (cs : List ℕ) → bytes_eq bs cs ≡ false → number_of n cs ≡ number_of m cs
numbers-after m n bs w h cs e = other_entries _ _ _ _ h.3 _ (λ x y. (eq_by_cmp_equiv nat_list_cmp_total).congr cs x.items y.items) (λ k. apart bs cs k.items e)

adds : (m n : Names) (bs : List ℕ) (v : ℕ) → is_some (number_of m bs) ≡ false → UpdatesBy (λ x y. slice_cmp nat_cmp x.items y.items) (λ k. slice_cmp nat_cmp bs k.items) m.numbers n.numbers (Some v) → Adds m bs v n
adds m n bs v absent h cs =
    ⊎_elim
    (λ y. subst (λ l. number_of n l ≡ (if is_some (number_of m l) then number_of m l else (if bytes_eq bs l then Some v else None))) ((bytes_decides bs cs).0 y) (grind (arith, absent, h.1, nat_list_eq_equiv.refl bs)))
    (λ e. grind (arith, numbers-after m n bs (Some v) h cs e, e))
    (cases_Bool (bytes_eq bs cs))

earlier : (b : Bool) (n : ℕ) (f g w : Option ℕ) → g ≡ (if is_some f then f else w) → (if b then Some n else g) ≡ (if is_some (if b then Some n else f) then (if b then Some n else f) else w)
earlier true n f g w h = refl
earlier false n f g w h = h

-- a key of the bytes bs is inserted, and bs has no number
pub Adds-new : (m n : Names) (key bs : List ℕ) (v : ℕ) → key ≡ bs → is_some (number_of m bs) ≡ false → UpdatesBy (λ x y. slice_cmp nat_cmp x.items y.items) (λ k. slice_cmp nat_cmp key k.items) m.numbers n.numbers (Some v) → Adds m bs v n
Adds-new m n key bs v e absent h = subst (λ l. Adds m l v n) e (adds m n key v (ap (λ l. is_some (number_of m l)) e ∙ absent) h)

-- an entry at the end is found where none before has the name
pub found-last : (x : List ℕ) (e : Entry) (es : List Entry) → found x (es ++ e ∷ []) ≡ (if is_some (found x es) then found x es else (if bytes_eq e.name.name x then Some e.number else None))
found-last x e [] = refl
found-last x e (d ∷ es) = earlier (bytes_eq d.name.name x) d.number (found x es) (found x (es ++ e ∷ [])) _ (found-last x e es)

pub Lists-add : (m n : Names) (es : List Entry) (e : Entry) → Lists m es → Adds m e.name.name e.number n → Lists n (es ++ e ∷ [])
Lists-add m n es e h a x = a x ∙ ap (λ o. if is_some o then o else (if bytes_eq e.name.name x then Some e.number else None)) (h x) ∙ sym (found-last x e es)
