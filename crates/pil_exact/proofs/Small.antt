-- What the look-ups in the small tables say.
use Rattle.std.proofs.Common.{ℕ, zero, suc, ◌+◌, ◌*◌, ◌/◌, ◌%◌, ◌<◌, ◌≤◌, ◌≡◌, ◌≢◌, Bool, true, false, eqb, bit_and, List, [], ◌∷◌, ◌++◌, map, Option, Some, None, refl, sym, ap, subst, ◌∙◌, arith}
use Rattle.std.proofs.lemmas.Bool.{eqb-true}
use Rattle.std.proofs.lemmas.Nat.{and_le_l, div-mul-add, mod-mul-add}
use Rattle.pil_ast.specs.Term.{Term, col, Tuples, Line, identity, lookup, Namespace, item_at}
use Rattle.pil_ast.specs.Columns.{Columns}
use Rattle.pil_ast.specs.Value.{Cells, value}
use Rattle.pil_ast.specs.Holds.{chosen, times, sent}
use Rattle.pil_exact.specs.Row.{Says}
use Rattle.pil_exact.specs.Tables.{bits, words, bytes, ands, IsSingle, SmallTables}
use Rattle.pil_exact.proofs.Row.{Fact, most, AllMeet, meet_both}
use Rattle.pil_laws.proofs.Sent.{from_sent, into_sent}

-- what an entry of the table in the namespace s is
abbrev pub Entry : ℕ → List ℕ → Type 0
Entry zero (x ∷ []) = x ≤ 1
Entry (suc zero) (x ∷ []) = x ≤ 65535
Entry (suc (suc zero)) (x ∷ y ∷ []) = (x ≤ 255) × (y ≤ 255)
Entry (suc (suc zero)) (x ∷ y ∷ z ∷ []) = (x ≤ 255) × (y ≤ 255) × (z ≡ bit_and x y)
Entry _ _ = Unit {0}

-- the list of BinTab, for tuples of two or three
abbrev pub pairs : List Term → Tuples
pairs (x ∷ y ∷ []) = bytes
pairs _ = ands

-- the look-up is in a small table, by this selector or by none
abbrev pub IsSelector : Term → Option Term → Type 0
IsSelector s None = Unit {0}
IsSelector s (Some e) = e ≡ s

-- the list is that of the small table in the namespace with this number; of other namespaces nothing is asked
abbrev pub IsTable : ℕ → List Term → Tuples → Type 0
IsTable zero es b = b ≡ bits
IsTable (suc zero) es b = b ≡ words
IsTable (suc (suc zero)) es b = b ≡ pairs es
IsTable _ es b = Unit {0}

abbrev pub IsSmall : Term → Line → Type 0
IsSmall s (lookup a b) = IsSelector s a.sel × IsTable b.space a.terms b
IsSmall s _ = Unit {0}

abbrev pub AllSmall : Term → List Line → Type 0
AllSmall s [] = Unit {0}
AllSmall s (l ∷ ls) = IsSmall s l × AllSmall s ls

-- the same of the list alone, whatever the selector
abbrev pub HasTable : Line → Type 0
HasTable (lookup a b) = IsTable b.space a.terms b
HasTable _ = Unit {0}

abbrev pub AllTables : List Line → Type 0
AllTables [] = Unit {0}
AllTables (l ∷ ls) = HasTable l × AllTables ls

has_table : (s : Term) (l : Line) → IsSmall s l → HasTable l
has_table s (lookup a b) h = h.1
has_table s _ h = tt

pub tables_of : (s : Term) (ls : List Line) → AllSmall s ls → AllTables ls
tables_of s [] h = tt
tables_of s (l ∷ ls) h = (has_table s l h.0, tables_of s ls h.1)

-- the table has tuples as long as these
abbrev pub IsShape : ℕ → List Term → Type 0
IsShape zero (x ∷ []) = Unit {0}
IsShape (suc zero) (x ∷ []) = Unit {0}
IsShape (suc (suc zero)) (x ∷ y ∷ []) = Unit {0}
IsShape (suc (suc zero)) (x ∷ y ∷ z ∷ []) = Unit {0}
IsShape _ _ = ⊥

-- the line is no identity, and its look-up has such tuples
abbrev pub IsLookup : Line → Type 0
IsLookup (lookup a b) = IsShape b.space a.terms
IsLookup (identity s a b) = ⊥
IsLookup _ = Unit {0}

-- what a line's look-up says of the values
abbrev pub Looks : List Line → Cells → Line → Type 0
Looks items x (lookup a b) = Entry b.space (map (value items x) a.terms)
Looks items x _ = Unit {0}

abbrev pub AllLook : List Line → Cells → List Line → Type 0
AllLook items x [] = Unit {0}
AllLook items x (l ∷ ls) = Looks items x l × AllLook items x ls

same_one : (a b : ℕ) → a ∷ [] ≡ b ∷ [] → a ≡ b
same_one a b h = cc

same_two : (a b x y : ℕ) → a ∷ b ∷ [] ≡ x ∷ y ∷ [] → (a ≡ x) × (b ≡ y)
same_two a b x y h = (cc, cc)

same_three : (a b c x y z : ℕ) → a ∷ b ∷ c ∷ [] ≡ x ∷ y ∷ z ∷ [] → (a ≡ x) × (b ≡ y) × (c ≡ z)
same_three a b c x y z h = (cc, cc, cc)

module _ (ns : List Namespace) (c : Columns) (tables : SmallTables c) where
  only_one : (s n i : ℕ) → IsSingle c s n → i < c.instances s → i ≡ 0
  only_one s n i h l = omega (arith, h.instances)

  row_of : (s n r : ℕ) → IsSingle c s n → r < c.rows s → r < n
  row_of s n r h l = omega (arith, h.rows)

  at_only : (s n k i r : ℕ) (v : ℕ → ℕ) → IsSingle c s n → i < c.instances s → r < c.rows s → ((q : ℕ) → q < n → c.at s 0 k q ≡ v q) → c.at s i k r ≡ v r
  at_only s n k i r v h l m e = ap (λ i. c.at s i k r) (only_one s n i h l) ∙ e r (row_of s n r h m)

  pub bit_entry : (x : ℕ) → times (x ∷ []) (sent ns c bits) ≢ 0 → x ≤ 1
  bit_entry x h =
      let s = from_sent ns c bits (x ∷ []) h in
      let e = same_one _ _ s.is_tuple in
      let v = at_only 0 2 0 s.instance s.row (λ q. q) tables.bit s.is_instance s.is_row tables.bit_value in
      let l = row_of 0 2 s.row tables.bit s.is_row in
      omega arith

  pub word_entry : (x : ℕ) → times (x ∷ []) (sent ns c words) ≢ 0 → x ≤ 65535
  word_entry x h =
      let s = from_sent ns c words (x ∷ []) h in
      let e = same_one _ _ s.is_tuple in
      let v = at_only 1 65536 0 s.instance s.row (λ q. q) tables.word s.is_instance s.is_row tables.word_value in
      let l = row_of 1 65536 s.row tables.word s.is_row in
      omega arith

  pub byte_entry : (x y : ℕ) → times (x ∷ y ∷ []) (sent ns c bytes) ≢ 0 → (x ≤ 255) × (y ≤ 255)
  byte_entry x y h =
      let s = from_sent ns c bytes (x ∷ y ∷ []) h in
      let e = same_two _ _ _ _ s.is_tuple in
      let v = at_only 2 65536 0 s.instance s.row (λ q. q / 256) tables.pair s.is_instance s.is_row tables.first in
      let w = at_only 2 65536 1 s.instance s.row (λ q. q % 256) tables.pair s.is_instance s.is_row tables.second in
      let l = row_of 2 65536 s.row tables.pair s.is_row in
      (omega (arith, e.0), omega (arith, e.1))

  pub and_entry : (x y z : ℕ) → times (x ∷ y ∷ z ∷ []) (sent ns c ands) ≢ 0 → (x ≤ 255) × (y ≤ 255) × (z ≡ bit_and x y)
  and_entry x y z h =
      let s = from_sent ns c ands (x ∷ y ∷ z ∷ []) h in
      let e = same_three _ _ _ _ _ _ s.is_tuple in
      let v = at_only 2 65536 0 s.instance s.row (λ q. q / 256) tables.pair s.is_instance s.is_row tables.first in
      let w = at_only 2 65536 1 s.instance s.row (λ q. q % 256) tables.pair s.is_instance s.is_row tables.second in
      let a = at_only 2 65536 2 s.instance s.row (λ q. bit_and (q / 256) (q % 256)) tables.pair s.is_instance s.is_row tables.and in
      let l = row_of 2 65536 s.row tables.pair s.is_row in
      (omega (arith, e.0), omega (arith, e.1), sym e.2 ∙ a ∙ (λ j. bit_and ((sym v ∙ e.0) j) ((sym w ∙ e.1) j)))

  entry : (f : Term → ℕ) (s : ℕ) (es : List Term) (b : Tuples) → IsTable s es b → times (map f es) (sent ns c b) ≢ 0 → Entry s (map f es)
  entry f zero (x ∷ []) b e h = bit_entry _ (subst (λ z. times (f x ∷ []) (sent ns c z) ≢ 0) e h)
  entry f (suc zero) (x ∷ []) b e h = word_entry _ (subst (λ z. times (f x ∷ []) (sent ns c z) ≢ 0) e h)
  entry f (suc (suc zero)) (x ∷ y ∷ []) b e h = byte_entry _ _ (subst (λ z. times (f x ∷ f y ∷ []) (sent ns c z) ≢ 0) e h)
  entry f (suc (suc zero)) (x ∷ y ∷ z ∷ []) b e h = and_entry _ _ _ (subst (λ w. times (f x ∷ f y ∷ f z ∷ []) (sent ns c w) ≢ 0) e h)
  entry f _ _ b e h = tt

  -- the other way
  pub is_bit : (x : ℕ) → x ≤ 1 → times (x ∷ []) (sent ns c bits) ≢ 0
  is_bit x h =
      into_sent ns c bits (x ∷ []) (record { instance = 0; row = x; is_instance = omega (arith, tables.bit.instances); is_row = omega (arith, tables.bit.rows); is_selected = refl; is_tuple = ap (λ v. v ∷ []) (tables.bit_value x (omega arith)) })

  pub is_word : (x : ℕ) → x ≤ 65535 → times (x ∷ []) (sent ns c words) ≢ 0
  is_word x h =
      into_sent ns c words (x ∷ []) (record { instance = 0; row = x; is_instance = omega (arith, tables.word.instances); is_row = omega (arith, tables.word.rows); is_selected = refl; is_tuple = ap (λ v. v ∷ []) (tables.word_value x (omega arith)) })

  pub is_bytes : (x y : ℕ) → x ≤ 255 → y ≤ 255 → times (x ∷ y ∷ []) (sent ns c bytes) ≢ 0
  is_bytes x y h k =
      let r = x * 256 + y in
      let l : r < 65536 = omega arith in
      let v = tables.first r l ∙ div-mul-add x 256 y (omega arith) in
      let w = tables.second r l ∙ mod-mul-add x 256 y (omega arith) in
      into_sent ns c bytes (x ∷ y ∷ []) (record { instance = 0; row = r; is_instance = omega (arith, tables.pair.instances); is_row = omega (arith, tables.pair.rows); is_selected = refl; is_tuple = cc })

  pub is_ands : (x y z : ℕ) → x ≤ 255 → y ≤ 255 → z ≡ bit_and x y → times (x ∷ y ∷ z ∷ []) (sent ns c ands) ≢ 0
  is_ands x y z h k e =
      let r = x * 256 + y in
      let l : r < 65536 = omega arith in
      let v = tables.first r l ∙ div-mul-add x 256 y (omega arith) in
      let w = tables.second r l ∙ mod-mul-add x 256 y (omega arith) in
      let a : c.at 2 0 2 r ≡ z = tables.and r l ∙ (λ j. bit_and (div-mul-add x 256 y (omega arith) j) (mod-mul-add x 256 y (omega arith) j)) ∙ sym e in
      into_sent ns c ands (x ∷ y ∷ z ∷ []) (record { instance = 0; row = r; is_instance = omega (arith, tables.pair.instances); is_row = omega (arith, tables.pair.rows); is_selected = refl; is_tuple = cc })

  pub is_entry : (f : Term → ℕ) (s : ℕ) (es : List Term) (b : Tuples) → IsTable s es b → IsShape s es → Entry s (map f es) → times (map f es) (sent ns c b) ≢ 0
  is_entry f zero (x ∷ []) b e i h = subst (λ z. times (f x ∷ []) (sent ns c z) ≢ 0) (sym e) (is_bit _ h)
  is_entry f (suc zero) (x ∷ []) b e i h = subst (λ z. times (f x ∷ []) (sent ns c z) ≢ 0) (sym e) (is_word _ h)
  is_entry f (suc (suc zero)) (x ∷ y ∷ []) b e i h = subst (λ z. times (f x ∷ f y ∷ []) (sent ns c z) ≢ 0) (sym e) (is_bytes _ _ h.0 h.1)
  is_entry f (suc (suc zero)) (x ∷ y ∷ z ∷ []) b e i h = subst (λ w. times (f x ∷ f y ∷ f z ∷ []) (sent ns c w) ≢ 0) (sym e) (is_ands _ _ _ h.0 h.1 h.2)
  is_entry f _ _ b e i h = absurd i

module _ (ns : List Namespace) (c : Columns) (tables : SmallTables c) (items : List Line) (x : Cells) (sel : Term) (on : chosen items x (Some sel) ≡ true) where
  chosen_by : (o : Option Term) → IsSelector sel o → chosen items x o ≡ true
  chosen_by None e = refl
  chosen_by (Some a) e = subst (λ z. chosen items x (Some z) ≡ true) (sym e) on

  looks : (l : Line) → IsSmall sel l → Says items x (sent ns c) l → Looks items x l
  looks (lookup a b) e h = entry ns c tables (value items x) b.space a.terms b e.1 (h (chosen_by a.sel e.0))
  looks _ e h = tt

  -- what the look-ups say of a selected row
  pub all_look : (ls : List Line) → AllSmall sel ls → ((k : ℕ) → Says items x (sent ns c) (item_at ls k)) → AllLook items x ls
  all_look [] e h = tt
  all_look (l ∷ ls) e h = (looks l e.0 (h 0), all_look ls e.1 (λ k. h (suc k)))

-- one of them
pub look : (items : List Line) (x : Cells) (ls : List Line) → AllLook items x ls → (k : ℕ) → Looks items x (item_at ls k)
look items x [] h k = tt
look items x (l ∷ ls) h zero = h.0
look items x (l ∷ ls) h (suc k) = look items x ls h.1 k

-- the bounds that look-ups put on columns of the namespace `home`
abbrev pub bound : ℕ → Term → ℕ → List (ℕ × Fact)
bound home (col s k false) m = elim (eqb s home) [ true ↦ (k, most m) ∷ [] | false ↦ [] ]
bound home _ m = []

abbrev pub entry_bounds : ℕ → ℕ → List Term → List (ℕ × Fact)
entry_bounds home zero (x ∷ []) = bound home x 1
entry_bounds home (suc zero) (x ∷ []) = bound home x 65535
entry_bounds home (suc (suc zero)) (x ∷ y ∷ []) = bound home x 255 ++ bound home y 255
entry_bounds home (suc (suc zero)) (x ∷ y ∷ z ∷ []) = bound home x 255 ++ (bound home y 255 ++ bound home z 255)
entry_bounds home _ _ = []

abbrev pub line_bounds : ℕ → Line → List (ℕ × Fact)
line_bounds home (lookup a b) = entry_bounds home b.space a.terms
line_bounds home _ = []

abbrev pub bounds : ℕ → List Line → List (ℕ × Fact)
bounds home [] = []
bounds home (l ∷ ls) = line_bounds home l ++ bounds home ls

anded : (x y z : ℕ) → x ≤ 255 → z ≡ bit_and x y → z ≤ 255
anded x y z h e = omega (arith, and_le_l x y)

bound_at : (f : ℕ → ℕ → ℕ) (s home k m : ℕ) → f s k ≤ m → (b : Bool) → eqb s home ≡ b → AllMeet (elim b [ true ↦ (k, most m) ∷ [] | false ↦ [] ]) (f home)
bound_at f s home k m h true e = (subst (λ z. f z k ≤ m) (eqb-true _ _ e) h, tt)
bound_at f s home k m h false e = tt

module _ (items : List Line) (x : Cells) (home : ℕ) where
  meets_bound : (e : Term) (m : ℕ) → value items x e ≤ m → AllMeet (bound home e m) (x.column 0 home)
  meets_bound (col s k false) m h = bound_at (x.column 0) s home k m h (eqb s home) refl
  meets_bound _ m h = tt

  meets_entry : (s : ℕ) (es : List Term) → Entry s (map (value items x) es) → AllMeet (entry_bounds home s es) (x.column 0 home)
  meets_entry zero (a ∷ []) h = meets_bound a 1 h
  meets_entry (suc zero) (a ∷ []) h = meets_bound a 65535 h
  meets_entry (suc (suc zero)) (a ∷ b ∷ []) h = meet_both _ _ _ (meets_bound a 255 h.0) (meets_bound b 255 h.1)
  meets_entry (suc (suc zero)) (a ∷ b ∷ d ∷ []) h = meet_both _ _ _ (meets_bound a 255 h.0) (meet_both _ _ _ (meets_bound b 255 h.1) (meets_bound d 255 (anded _ _ _ h.0 h.2)))
  meets_entry _ _ h = tt

  meets_line : (l : Line) → Looks items x l → AllMeet (line_bounds home l) (x.column 0 home)
  meets_line (lookup a b) h = meets_entry b.space a.terms h
  meets_line _ h = tt

  pub meets_bounds : (ls : List Line) → AllLook items x ls → AllMeet (bounds home ls) (x.column 0 home)
  meets_bounds [] h = tt
  meets_bounds (l ∷ ls) h = meet_both _ _ _ (meets_line l h.0) (meets_bounds ls h.1)
