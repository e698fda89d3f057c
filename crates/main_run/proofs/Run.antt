-- The rows of Main are the steps of the run.
use Rattle.std.proofs.Common.{ℕ, zero, suc, true, false, ◌≡◌, ◌≢◌, ◌<◌, ◌≤◌, ◌+◌, ◌-◌, ◌*◌, ◌^◌, ◌&&◌, cond, eqb, ◌/◌, ◌%◌, inr, List, [], ◌∷◌, map, replicate, refl, sym, ap, subst, arith, ⊎_elim, ◌∙◌}
use Rattle.std.specs.Prelude.{slice_index}
use Rattle.std.specs.List.{Contains}
use Rattle.std.proofs.lemmas.Bool.{cases_eq}
use Rattle.std.proofs.lemmas.List.{length-replicate, get_or-replicate}
use Rattle.pil_ast.specs.Term.{Namespace}
use Rattle.pil_ast.specs.Columns.{Columns}
use Rattle.machine_text.specs.Main
use Rattle.rv_model.specs.Align.{aligned}
use Rattle.rv_model.specs.Image.{Img, initial_word}
use Rattle.rv_model.specs.State.{State, Answer, Next, step, start}
use Rattle.rv_model.specs.Run.{state_at, step_at, moved, IsNext}
use Rattle.air_main.specs.Step.{Limbs}
use Rattle.air_main.specs.Law.{HasMain, Meets, Supposed as RowSupposed, IsStep, left, at_row}
use Rattle.air_main.specs.Selected.{IsSelected}
use Rattle.air_mem.specs.Access.{Access, IsEarlierWrite}
use Rattle.image_rows.specs.Laws.{IsInitial}
use Rattle.step_rows.specs.Initial.{initial_doublewords}
use Rattle.step_rows.specs.Words.{low, high}
use Rattle.step_rows.specs.Tuples.{IsAccess}
use Rattle.step_rows.specs.declared.doubleword.Doubleword.{Doubleword}
use Rattle.pil_ast.specs.Value.{around, value}
use Rattle.air_mem.specs.Lists.{initial_write}
use Rattle.main_run.specs.Chain.{IsPlace}
use Rattle.main_run.specs.Bus.{IsWrite, initial, stored, put}
use Rattle.main_run.specs.Run.{reading, Leaves, by, untouched, Keeps, Supposed, Fact, Reads, Steps, StepsLaw, BeginLaw, Halted, HaltLaw}
use Rattle.main_run.proofs.Below.{MainLaws, StartLaws}
use Rattle.main_run.proofs.Chain.{meets, fixed, told, chain_law, rest_law}
use Rattle.main_run.proofs.Leaves.{later, read_is, quiet}
use Rattle.main_run.proofs.Kept.{kept}

register_apart : (a b k : ℕ) → a ≡ b → a ≡ 536870912 + k → b < 536870912 → ⊥
register_apart a b k e h l = omega arith

limbs_of : (v : ℕ) → v < 2 ^ 64 → Limbs (low v) (high v) v
unfolding low high
limbs_of v h = record { lo_below = omega arith; hi_below = omega arith; is = omega arith }

-- the last two numbers of an access's tuple are limbs
stored_below : (n off olo ohi slo shi mlo mhi : ℕ) → IsAccess (n ∷ off ∷ olo ∷ ohi ∷ slo ∷ shi ∷ mlo ∷ mhi ∷ []) → (mlo < 4294967296) × (mhi < 4294967296)
stored_below n off olo ohi slo shi mlo mhi h =
    let l : mlo ≡ aligned h.kind h.off h.old h.value % 2 ^ 32 = ap (λ t. slice_index t 6) h.is in
    let k : mhi ≡ aligned h.kind h.off h.old h.value / 2 ^ 32 = ap (λ t. slice_index t 7) h.is in
    (limb_low mlo _ l, limb_high mhi _ k h.result_fits)
  where
    limb_low : (m v : ℕ) → m ≡ v % 2 ^ 32 → m < 4294967296
    limb_low m v e = omega arith

    limb_high : (m v : ℕ) → m ≡ v / 2 ^ 32 → v < 2 ^ 64 → m < 4294967296
    limb_high m v e h = omega arith

state_next : (image : Img) (j : ℕ) (a : Answer) → step image (state_at image j) ≡ a → state_at image (suc j) ≡ moved (state_at image j) a
unfolding state_at
state_next image j a e = ap (moved (state_at image j)) e

state_first : (image : Img) → state_at image 0 ≡ start image
unfolding state_at
state_first image = refl

is_next : (a : Answer) (t : State) → a ≡ Next t → IsNext a
is_next a t e = subst IsNext (sym e) tt

up_to : (P : ℕ → Type 0) (j : ℕ) → ((g : ℕ) → g < j → P g) → P j → (g : ℕ) → g < suc j → P g
up_to P j below here g l = ⊎_elim (λ e. subst P (sym e) here) (λ n. below g (omega arith)) (cases_eq g j)

first_bit : (v i r : ℕ) → v ≡ cond (eqb i 0 && eqb r 0) 1 0 → i ≡ 0 → r ≡ 0 → v ≡ 1
first_bit v i r h e q = subst (λ z. v ≡ cond (eqb z 0 && eqb 0 0) 1 0) e (subst (λ z. v ≡ cond (eqb i 0 && eqb z 0) 1 0) q h)

module _ (laws : MainLaws) (starts : StartLaws) (ns : List Namespace) (c : Columns) (n : ℕ) (image : Img) (xs : List Access) (a : Supposed ns c n image xs) where
  abbrev has : HasMain ns c n image
  has = a.stands.has

  -- a read of row number j, after the row below
  read_at : (j : ℕ) (k t lo hi v : ℕ) → 8 * j + 1 ≤ t → t < 8 * j + 4 → Contains xs (record { key = k; time = t; write = false; lo = lo; hi = hi }) → Leaves xs k (8 * j + 1) v → Limbs lo hi v
  read_at j k t lo hi v h l m keeps =
      read_is xs a.bus.distinct (record { key = k; time = t; write = false; lo = lo; hi = hi }) v (a.bus.right _ m refl) (later xs k (8 * j + 1) t v h (λ w o e _ q. quiet ns c image j w (a.bus.writes w o e) (less _ _ _ q l)) keeps)
    where
      less : (x y z : ℕ) → x < y → y < z → x < z
      less x y z h l = omega arith

  is_initial : (d : Doubleword) → Contains (initial_doublewords image) d → IsInitial image d
  is_initial d m = subst (IsInitial image) m.2 ((starts.initial image).each m.0 d m.1)

  -- before any row the keys hold the start
  begins : Keeps xs (8 * 0 + 1) (start image)
  begins = record {
    registers = λ k d. untouched (λ w m e. no_register k w m e) (zeros k d);
    words = λ k d. word k d;
    zero = zeros 0 (omega arith);
    len = let z : ℕ = 0 in length-replicate 32 z;
  }
    where
      zeros : (k : ℕ) → k < 32 → slice_index (replicate 32 0) k ≡ 0
      zeros k d = let z : ℕ = 0 in get_or-replicate 32 k z z d

      from_init : (w : Access) → Contains xs w → w.write ≡ true → w.time < 8 * 0 + 1 → (d : Doubleword) × Contains (initial_doublewords image) d × (w ≡ initial_write d)
      from_init w m e l = of (a.bus.writes w m e)
        where
          of : IsWrite ns c image w → (d : Doubleword) × Contains (initial_doublewords image) d × (w ≡ initial_write d)
          of (initial d o q) = (d, o, q)
          of (stored j i r place on st q) = absurd (let t : w.time ≡ 8 * j + 4 = ap (λ z. z.time) q in omega arith)
          of (put j i r place on wr q) = absurd (let t : w.time ≡ 8 * j + 5 = ap (λ z. z.time) q in omega arith)

      no_register : (k : ℕ) (w : Access) → Contains xs w → IsEarlierWrite (reading (536870912 + k) (8 * 0 + 1)) w → ⊥
      no_register k w m e =
          let d = from_init w m e.write e.before in
          let q : w.key ≡ d.0.number = ap (λ z. z.key) d.2 in
          register_apart _ _ _ q e.key (is_initial d.0 d.1).below

      word : (k : ℕ) → k < 536870912 → Leaves xs k (8 * 0 + 1) (initial_word image k)
      word k l =
          ⊎_elim
          (λ z. untouched
          (λ w m e.
          let d = from_init w m e.write e.before in
          let q : w.key ≡ d.0.number = ap (λ z. z.key) d.2 in
          (is_initial d.0 d.1).some ((is_initial d.0 d.1).value ∙ subst (λ z. initial_word image z ≡ 0) (sym e.key ∙ q) z))
          z)
          (λ z.
          let d = (starts.initial image).every k l z in
          by (initial_write (record { number = k; value = initial_word image k })) (record { there = a.bus.starts _ d; earlier = record { write = refl; key = refl; before = omega arith }; greatest = λ v m e. at_first v.time e.before }) (limbs_of (initial_word image k) (starts.words image k a.loadable)))
          (cases_eq (initial_word image k) 0)
        where
          at_first : (t : ℕ) → t < 8 * 0 + 1 → t ≤ 0
          at_first t h = omega arith

  pub begin : Fact ns c image xs 0
  begin =
      let some = a.stands.some in
      let rows = a.stands.constants.joints.rows in
      let e = (laws.ends ns c n image 0 0 has (fixed laws ns c n image a.stands 0 0 some rows) (meets laws ns c n image a.stands 0 0 some rows)).0 (first_bit _ 0 0 (a.stands.constants.is_first 0 0 some rows) refl refl) in
      record {
        instance = 0;
        row = 0;
        place = record { is_instance = some; is_row = rows; is_number = none (c.rows 6) };
        selected = λ z. one_none _ e.0 z;
        on = λ g l. absurd (omega arith);
        pc = e.1 ∙ a.stands.constants.is_entry 0 0 some rows ∙ sym (ap (λ s. s.pc) (state_first image));
        keeps = subst (λ s. Keeps xs (8 * 0 + 1) s) (sym (state_first image)) begins;
      }
    where
      none : (n : ℕ) → 0 ≡ 0 * n + 0
      none n = omega arith

      one_none : (x : ℕ) → x ≡ 1 → x ≡ 0 → ⊥
      one_none x h z = omega arith

  module _ (j : ℕ) (f : Fact ns c image xs j) where
    abbrev i : ℕ
    i = f.instance

    abbrev r : ℕ
    r = f.row

    abbrev s : State
    s = state_at image j

    here : Meets ns c i r
    here = meets laws ns c n image a.stands i r f.place.is_instance f.place.is_row

    at : IsSelected ns c i r
    at = told laws ns c n image a.stands i r f.place.is_instance f.place.is_row f.selected

    reads : Reads ns c i r s
    reads =
        let g = at in
        record {
          first = read_at j (536870912 + c.at 6 i 10 r) (8 * j + 1) _ _ _ (omega arith) (omega arith) (a.bus.first j i r f.place f.selected) (f.keeps.registers _ g.rs1);
          second = read_at j (536870912 + c.at 6 i 11 r) (8 * j + 2) _ _ _ (omega arith) (omega arith) (a.bus.second j i r f.place f.selected) (f.keeps.registers _ g.rs2);
          old = λ some. read_at j (at_row ns c i r Main.w) (8 * j + 3) _ _ _ (omega arith) (omega arith) (a.bus.old j i r f.place f.selected some) (f.keeps.words _ (at.w_below some));
        }

    supposed : RowSupposed ns c n image i r s
    supposed = record {
      has = has;
      meets = here;
      selected = f.selected;
      operation = a.operation i r f.place.is_instance f.place.is_row f.selected (at.b_high reads.second.hi_below);
      access = λ some. a.access i r f.place.is_instance f.place.is_row some;
      pc = f.pc;
      first = reads.first;
      second = reads.second;
      old = reads.old;
      next = λ goes. (chain_law laws ns c n image a.stands j i r f.place f.selected goes).known;
      zero = f.keeps.zero;
    }

    is : IsStep ns c image i r s
    is = laws.row ns c n image i r s supposed

    -- line 19: what is stored are limbs
    moved_below : at_row ns c i r Main.ms ≢ 0 → (c.at 6 i 43 r < 4294967296) × (c.at 6 i 44 r < 4294967296)
    moved_below some = stored_below _ _ _ _ _ _ _ _ (subst IsAccess (ap (λ n. map (value n.items (around ns c 6 i r)) Main.access.terms) has.main) (a.access i r f.place.is_instance f.place.is_row some))

    after : Keeps xs (8 * suc j + 1) (left ns c i r s)
    after =
        let m : (st : c.at 6 i 23 r ≡ 1) → at_row ns c i r Main.ms ≢ 0 = λ st. is.moves st in
        kept ns c image xs a.bus j i r f.place f.selected (λ st. is.w_below (m st))
        (λ st. (moved_below (m st)).0)
        (λ st. (moved_below (m st)).1)
        is.v_below.0 is.v_below.1 is.rd_below s f.keeps is.rd_above

    follows : c.at 6 i 28 r ≢ 1 → Fact ns c image xs (suc j)
    follows goes =
        let w = chain_law laws ns c n image a.stands j i r f.place f.selected goes in
        let e : step image s ≡ Next (left ns c i r s) = is.goes goes in
        let t = state_next image j _ e in
        record {
          instance = w.instance;
          row = w.row;
          place = w.place;
          selected = w.selected;
          on = up_to (λ g. IsNext (step_at image g)) j f.on (is_next _ _ e);
          pc = w.pc ∙ sym (ap (λ z. z.pc) t);
          keeps = subst (λ z. Keeps xs (8 * suc j + 1) z) (sym t) after;
        }

    pub steps : Steps ns c image xs j f
    steps = record { reads = reads; halts = λ h. is.halts h; goes = follows }

  -- facts of a row and of all before it, with what they read
  abbrev Told : ℕ → Type 0
  Told j = (f : Fact ns c image xs j) × Reads ns c f.instance f.row (state_at image j)

  inside : (j i r : ℕ) → IsPlace c j i r → j < c.instances 6 * c.rows 6
  inside j i r h = bound (c.instances 6 - (i + 1)) (omega (arith, h.is_instance))
    where
      times_le : (a d n : ℕ) → (a + 1) * n ≤ (a + 1 + d) * n
      times_le a zero n = omega arith
      times_le a (suc d) n = let h = times_le a d n in omega arith

      bound : (d : ℕ) → c.instances 6 ≡ i + 1 + d → j < c.instances 6 * c.rows 6
      bound d e =
          let t = times_le i d (c.rows 6) in
          let q = ap (λ z. z * c.rows 6) e in
          let l = h.is_row in
          let m = h.is_number in
          omega arith

  find : (rest j : ℕ) → j + rest ≡ c.instances 6 * c.rows 6 → ((g : ℕ) → g < j → Told g) → Fact ns c image xs j → Halted ns c image xs
  find zero j e below f = absurd (let l = inside j _ _ f.place in omega arith)
  find (suc rest) j e below f =
      ⊎_elim
      (λ h. record {
        last = j;
        facts = λ g l. (all g l).0;
        reads = λ g l. (all g l).1;
        fact = f;
        halt = h;
        halts = (steps j f).halts h;
        rest = λ k i r l at. rest_law laws ns c n image a.stands j f.instance f.row f.place (inr h) k i r l at;
        below = few _ _ (inside j _ _ f.place) a.stands.few;
      })
      (λ h. find rest (suc j) (more j rest _ e) (up_to Told j below (f, (steps j f).reads)) ((steps j f).goes h))
      (cases_eq (c.at 6 f.instance 28 f.row) 1)
    where
      all : (g : ℕ) → g ≤ j → Told g
      all g l = up_to Told j below (f, (steps j f).reads) g (omega arith)

      few : (j m : ℕ) → j < m → m ≤ 2 ^ 32 → j < 2 ^ 32
      few j m h l = omega arith

      more : (j k m : ℕ) → j + suc k ≡ m → suc j + k ≡ m
      more j k m e = omega arith

pub begin_law : MainLaws → StartLaws → BeginLaw
begin_law laws starts ns c n image xs a = begin laws starts ns c n image xs a

pub steps_law : MainLaws → StartLaws → StepsLaw
steps_law laws starts ns c n image xs a j f = steps laws starts ns c n image xs a j f

pub halt_law : MainLaws → StartLaws → HaltLaw
halt_law laws starts ns c n image xs a = find laws starts ns c n image xs a (c.instances 6 * c.rows 6) 0 (none _) (λ g l. absurd (omega arith)) (begin laws starts ns c n image xs a)
  where
    none : (m : ℕ) → 0 + m ≡ m
    none m = omega arith
