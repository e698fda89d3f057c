-- What is found at a place is its value.
use Rattle.std.proofs.Common.{ℕ, ◌≡◌, ◌<◌, ◌≤◌, ◌+◌, ◌-◌, Option, Some, None, sym, ap, subst, ◌∙◌, arith}
use Rattle.gold.specs.declared.shapes.Shape.{Shape}
use Rattle.gold.specs.Shapes.{airs_of, in_profile}
use Rattle.gold.specs.declared.instances.Witness.{Witness}
use Rattle.rv_model.specs.Image.{Img}
use Rattle.zk_layout.specs.Air.{air_number, machine_airs}
use Rattle.zk_layout.specs.Namespaces.{namespace_at}
use Rattle.zk_layout.specs.declared.air.Air.{Air}
use Rattle.zk_layout.specs.declared.namespace.Namespace.{Namespace}
use Rattle.fixed_cols.specs.Constants.{Fixed, constant, constant_in, instances_in}
use Rattle.wit_columns.specs.Index.{Shaped}
use Rattle.wit_columns.specs.Values.{instances_of, width_of, rows_of, value_at}
use Rattle.machine_columns.specs.Values.{sizes_of, constants_per, instances_at, width_at, value_in}
use Rattle.machine_columns.specs.Place.{Claim, AreColumnsOf, air_in}
use Rattle.machine_columns.proofs.Values.{Inside, value_is, cell_constant, cell_held, air_at, none_at}

abbrev claim_of : Img → Shaped → Claim
claim_of image tables = record { image = image; witness = tables.witness }

module _ (image : Img) (fixed : Fixed) (tables : Shaped) (h : AreColumnsOf image fixed tables) where
  abbrev w : Witness
  w = tables.witness

  abbrev HasValue : ℕ → ℕ → ℕ → ℕ → ℕ → Claim → Type 0
  HasValue s i k r x v = Inside v.image v.witness s i k r → x ≡ value_in v.image v.witness s i k r

  counted : (s n : ℕ) → n ≡ instances_in fixed (namespace_at s) → n ≡ instances_at image w s
  counted s n e = e ∙ ap (λ f. instances_in f (namespace_at s)) h.fixed_is

  fixed_value : (space : Namespace) (i k r : ℕ) → constant_in fixed space i k r ≡ constant image (sizes_of w) space i k r
  unfolding constant
  fixed_value space i k r = ap (λ f. constant_in f space i k r) h.fixed_is

  constant_value : (s i k r x : ℕ) → k < constants_per (namespace_at s) → x ≡ constant_in fixed (namespace_at s) i k r → Inside image w s i k r → x ≡ value_in image w s i k r
  constant_value s i k r x c e at = e ∙ fixed_value (namespace_at s) i k r ∙ sym (cell_constant image w (namespace_at s) i k r c) ∙ sym (value_is image w s i k r at)

  held_value : (s i k r x : ℕ) (a : Air) → air_in (namespace_at s) ≡ Some a → constants_per (namespace_at s) ≤ k
      → x ≡ value_at w.tables (air_number a) i (k - constants_per (namespace_at s)) r → Inside image w s i k r → x ≡ value_in image w s i k r
  held_value s i k r x a is c e at =
      e ∙ sym ((air_at image w s at.space a is).here i (k - constants_per (namespace_at s)) r) ∙ sym (cell_held image w (namespace_at s) i k r c) ∙ sym (value_is image w s i k r at)

  no_value : (s i k r : ℕ) → air_in (namespace_at s) ≡ None → constants_per (namespace_at s) ≤ k → Inside image w s i k r → 0 ≡ value_in image w s i k r
  no_value s i k r is c at = sym (none_at w s at.space is i (k - constants_per (namespace_at s)) r) ∙ sym (cell_held image w (namespace_at s) i k r c) ∙ sym (value_is image w s i k r at)

  -- the air's table has the place
  pub record Reached (i k r constants number : ℕ) : Type 0 where
    pub instance : i < instances_of tables.witness.tables number
    pub column : k - constants < width_of (airs_of tables.shape tables.witness) number
    pub row : r < rows_of (airs_of tables.shape tables.witness) number

  same_airs : airs_of tables.shape tables.witness ≡ in_profile w.profile machine_airs
  same_airs = ap (λ (shape : Shape). in_profile w.profile shape.airs) h.shape_is

  past : (k c n wide : ℕ) → c ≤ k → k < n → n ≡ c + wide → k - c < wide
  past k c n wide a b e = omega arith

  reached_by : (s i k r : ℕ) (a : Air) → air_in (namespace_at s) ≡ Some a → constants_per (namespace_at s) ≤ k → Inside image w s i k r → Reached i k r (constants_per (namespace_at s)) (air_number a)
  reached_by s i k r a is c at =
      let o = air_at image w s at.space a is in
      record {
        instance = subst (λ n. i < n) o.many at.instance;
        column = subst (λ fs. k - constants_per (namespace_at s) < width_of fs (air_number a)) (sym same_airs) (past k (constants_per (namespace_at s)) (width_at w s) (width_of (in_profile w.profile machine_airs) (air_number a)) c at.column o.wide);
        row = subst (λ fs. r < rows_of fs (air_number a)) (sym same_airs) (subst (λ n. r < n) o.high at.row);
      }

  -- ---- the same of what a caller sees, and of what was found on the way

  module _ (seen : Claim) (view : claim_of image tables ≡ seen) where
    pub counted_seen : (s n : ℕ) → n ≡ instances_in fixed (namespace_at s) → n ≡ instances_at seen.image seen.witness s
    counted_seen s n e = subst (λ (v : Claim). n ≡ instances_at v.image v.witness s) view (counted s n e)

    pub constant_seen : (s i k r x c : ℕ) (space : Namespace) → space ≡ namespace_at s → c ≡ constants_per space → k < c → x ≡ constant_in fixed (namespace_at s) i k r
        → Inside seen.image seen.witness s i k r → x ≡ value_in seen.image seen.witness s i k r
    constant_seen s i k r x c space e f l is =
        let below : k < constants_per (namespace_at s) = subst (λ z. k < constants_per z) e (subst (λ n. k < n) f l) in
        subst (HasValue s i k r x) view (constant_value s i k r x below is)

    -- what is known behind the constants
    pub record Behind (s k c : ℕ) (space : Namespace) : Type 0 where
      pub space_is : space ≡ namespace_at s
      pub constants : c ≡ constants_per space
      pub past : c ≤ k

    same_constants : (s k c : ℕ) (space : Namespace) → Behind s k c space → c ≡ constants_per (namespace_at s)
    same_constants s k c space b = b.constants ∙ ap constants_per b.space_is

    behind : (s k c : ℕ) (space : Namespace) → Behind s k c space → constants_per (namespace_at s) ≤ k
    behind s k c space b = subst (λ n. n ≤ k) (same_constants s k c space b) b.past

    air_is : (s : ℕ) (space : Namespace) (o p : Option Air) → space ≡ namespace_at s → o ≡ air_in space → o ≡ p → air_in (namespace_at s) ≡ p
    air_is s space o p e f g = ap air_in (sym e) ∙ sym f ∙ g

    pub reached : (s i k r c n : ℕ) (space : Namespace) (o : Option Air) (a : Air) → Behind s k c space → o ≡ air_in space → o ≡ Some a → n ≡ air_number a
        → Inside seen.image seen.witness s i k r → Reached i k r c n
    reached s i k r c n space o a b f g e =
        subst (λ (v : Claim). Inside v.image v.witness s i k r → Reached i k r c n) view
        (λ at. subst (λ m. Reached i k r m n) (sym (same_constants s k c space b)) (subst (λ m. Reached i k r (constants_per (namespace_at s)) m) (sym e) (reached_by s i k r a (air_is s space o (Some a) b.space_is f g) (behind s k c space b) at)))

    pub held_seen : (s i k r x c n : ℕ) (space : Namespace) (o : Option Air) (a : Air) → Behind s k c space → o ≡ air_in space → o ≡ Some a → n ≡ air_number a
        → x ≡ value_at tables.witness.tables n i (k - c) r → Inside seen.image seen.witness s i k r → x ≡ value_in seen.image seen.witness s i k r
    held_seen s i k r x c n space o a b f g e is =
        let found : x ≡ value_at w.tables (air_number a) i (k - constants_per (namespace_at s)) r =
        subst (λ m. x ≡ value_at w.tables m i (k - constants_per (namespace_at s)) r) e (subst (λ m. x ≡ value_at w.tables n i (k - m) r) (same_constants s k c space b) is) in
        subst (HasValue s i k r x) view (held_value s i k r x a (air_is s space o (Some a) b.space_is f g) (behind s k c space b) found)

    pub none_seen : (s i k r c : ℕ) (space : Namespace) (o : Option Air) → Behind s k c space → o ≡ air_in space → o ≡ None
        → Inside seen.image seen.witness s i k r → 0 ≡ value_in seen.image seen.witness s i k r
    none_seen s i k r c space o b f g = subst (HasValue s i k r 0) view (no_value s i k r (air_is s space o None b.space_is f g) (behind s k c space b))
