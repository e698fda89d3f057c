-- The columns of the sequential tables have the rows of the run, so that they are accepted.
use Rattle.std.proofs.Common.{ℕ, ◌+◌, ◌*◌, ◌<◌, ◌≤◌, ◌≡◌, ◌^◌, List, [], refl, sym, ap, ◌∙◌, subst, arith}
use Rattle.std.specs.Prelude.{All, slice_index, slice_index_or}
use Rattle.gold.specs.declared.instances.Table.{Table}
use Rattle.gold.specs.declared.instances.Witness.{Witness}
use Rattle.gold.specs.declared.shapes.Profile.TheVariants.{Small}
use Rattle.rv_model.specs.Image.{Img, IsLoadable}
use Rattle.rv_model.specs.Run.{RunsTo}
use Rattle.rv_model.specs.declared.answer.Public.{Public}
use Rattle.zk_layout.specs.Air.{air_number, rows_per, rows_in}
use Rattle.zk_layout.specs.Namespaces.{namespace_number, namespace_of}
use Rattle.zk_layout.specs.declared.air.Air.{Air}
use Rattle.zk_layout.specs.declared.air.Air.TheVariants.{Main, Mem, Binary, Shift, Arith, Align, Out}
use Rattle.pil_ast.specs.Columns.{Columns}
use Rattle.run_tables.specs.Sequential.{sequential_witness}
use Rattle.machine_columns.specs.Values.{constants_per, sizes_of, values_of}
use Rattle.machine_columns.specs.Accepted.{AreAccepted, AreWellFormed}
use Rattle.run_lines.specs.Rows.{count_of, space_of, constants_of, HasRows, AreRunOf}
use Rattle.run_accepted.proofs.Below.{Laws}
use Rattle.run_accepted.proofs.Cut.{IsSmallRow}
use Rattle.run_accepted.proofs.Shape.{witness, value_is, how_many, counts, well_formed}
use Rattle.run_accepted.proofs.Run.{rows, count, is_cut, are_few, room_for}

-- ---- the numbers of an air's namespace
constants_are : (air : Air) → constants_per (namespace_of air) ≡ constants_of air
unfolding namespace_of constants_per constants_of
constants_are Main = refl
constants_are Mem = refl
constants_are Binary = refl
constants_are Shift = refl
constants_are Arith = refl
constants_are Align = refl
constants_are Out = refl

module _ (image : Img) (made : Air → List (List ℕ)) (number : Air → ℕ) where
  abbrev own : Witness
  own = witness made number

  abbrev columns : Columns
  columns = values_of image own

  height_is : (air : Air) → columns.rows (space_of air) ≡ rows_per air
  unfolding namespace_number namespace_of rows_per
  height_is Main = refl
  height_is Mem = refl
  height_is Binary = refl
  height_is Shift = refl
  height_is Arith = refl
  height_is Align = refl
  height_is Out = refl

  in_small : (air : Air) → rows_in Small air ≡ rows_per air
  in_small air = refl

  instances_are : (air : Air) → columns.instances (space_of air) ≡ number air
  unfolding namespace_number namespace_of air_number
  instances_are Main = ap (λ cs. slice_index cs 0) (counts made number)
  instances_are Mem = ap (λ cs. slice_index cs 1) (counts made number)
  instances_are Binary = ap (λ cs. slice_index cs 2) (counts made number)
  instances_are Shift = ap (λ cs. slice_index cs 3) (counts made number)
  instances_are Arith = ap (λ cs. slice_index cs 4) (counts made number)
  instances_are Align = ap (λ cs. slice_index cs 5) (counts made number)
  instances_are Out = ap (λ cs. slice_index cs 6) (counts made number)

  less : (i m n : ℕ) → i < m → m ≡ n → i < n
  less i m n h e = omega arith

  has_rows : (laws : Laws) (air : Air) → HasRows columns air (made air)
  has_rows laws air = record {
    each = λ i r k hi hr hk.
        let li : i < number air = less i _ _ hi (instances_are air) in
        let lr : r < rows_per air = less r _ _ hr (height_is air) in
        ap (λ m. columns.at (space_of air) i (m + k) r) (sym (constants_are air))
        ∙ laws.columns.tables image own air i k r (less i _ _ li (sym (how_many made number air))) hk lr
        ∙ value_is made number air i k r li hk lr
        ∙ ap (λ m. slice_index (slice_index_or (made air) (i * m + r) []) k) (sym (height_is air));
  }

module _ (laws : Laws) (image : Img) (n : ℕ) (public : Public) (loadable : IsLoadable image) (few : n < 2 ^ 32) (run : RunsTo image n public) (small : (air : Air) → All IsSmallRow (rows image n public air)) where
  abbrev made : Witness
  made = witness (rows image n public) (count image n public)

  shaped : AreWellFormed made
  shaped = well_formed (rows image n public) (count image n public) (are_few image n public laws loadable few run) small

  room_in : (air : Air) (m h : ℕ) → h ≡ rows_per air → m ≡ count image n public air → count_of air image n public ≤ m * h
  room_in air m h e f = subst (λ h. count_of air image n public ≤ m * h) (sym e) (subst (λ m. count_of air image n public ≤ m * rows_per air) (sym f) (room_for air (count_of air image n public)))

  run_of : AreRunOf image n public (sizes_of made) (values_of image made)
  run_of = record {
    machine = laws.columns.is_machine image made loadable shaped;
    heights = height_is image (rows image n public) (count image n public);
    room = λ air. room_in air _ _ (height_is image (rows image n public) (count image n public) air) (instances_are image (rows image n public) (count image n public) air);
    rows = has_rows image (rows image n public) (count image n public) laws;
  }

  pub accepted : AreWellFormed (sequential_witness image n public) × AreAccepted image (sequential_witness image n public)
  unfolding AreAccepted
  accepted =
      subst (λ (ts : List Table). AreWellFormed (record { profile = Small; tables = ts }) × AreAccepted image (record { profile = Small; tables = ts })) (sym (is_cut image n public))
      (shaped, laws.holds image n public (sizes_of made) (values_of image made) loadable few run run_of)
