-- Tables that are cut out of rows have the machine's shape.
use Rattle.std.proofs.Common.{ℕ, zero, suc, ◌+◌, ◌*◌, ◌<◌, ◌≤◌, ◌≡◌, ◌^◌, true, List, [], ◌∷◌, ◌++◌, map, refl, sym, ap, ◌∙◌, subst, arith}
use Rattle.std.specs.Prelude.{All, slice_index, slice_index_or}
use Rattle.std.specs.List.{range_with_len}
use Rattle.std.specs.Option.{option_map_or}
use Rattle.std.proofs.lemmas.Bool.{false≢true}
use Rattle.gold.specs.Shapes.{HaveShape, Fill, Fits, Place, instances_from, places_from, counts_from, AreCounts}
use Rattle.gold.specs.declared.instances.Table.{Table}
use Rattle.gold.specs.declared.instances.Witness.{Witness}
use Rattle.gold.specs.declared.shapes.Form.TheVariants.{Two}
use Rattle.gold.specs.declared.shapes.Profile.TheVariants.{Small}
use Rattle.zk_layout.specs.Air.{air_number, rows_per, columns_per, most_per, air_shape, airs, machine_airs, machine_shape_of}
use Rattle.zk_layout.specs.declared.air.Air.{Air}
use Rattle.zk_layout.specs.declared.air.Air.TheVariants.{Main, Mem, Binary, Shift, Arith, Align, Out}
use Rattle.run_rows.specs.Tables.{table_of}
use Rattle.wit_columns.specs.Values.{value_at, value_in, instances_of}
use Rattle.run_accepted.proofs.Pieces.{AreNamed, all_of, all_among, find_in, counts_are, instances_are}
use Rattle.run_accepted.proofs.Cut.{IsSmallRow, value_there, columns_long, columns_tall, columns_small}

-- as many instances as a file may have
pub record AreFew (count : Air → ℕ) : Type 0 where
  pub main : 0 < count Main
  pub out : count Out ≡ 1
  pub most : (air : Air) → count air ≤ most_per air

-- the airs from number a on
abbrev Numbered : ℕ → List Air → Type 0
Numbered a [] = Unit {0}
Numbered a (x ∷ xs) = (air_number x ≡ a) × Numbered (suc a) xs

numbered : Numbered 0 airs
unfolding air_number
numbered = (refl, (refl, (refl, (refl, (refl, (refl, (refl, tt)))))))

-- an air's numbers have 32 bits
bits_of : (air : Air) → (rows_per air < 2 ^ 32) × (columns_per air < 2 ^ 32) × (most_per air < 2 ^ 32) × (air_number air < 2 ^ 32)
unfolding air_number rows_per columns_per most_per
bits_of Main = (omega arith, omega arith, omega arith, omega arith)
bits_of Mem = (omega arith, omega arith, omega arith, omega arith)
bits_of Binary = (omega arith, omega arith, omega arith, omega arith)
bits_of Shift = (omega arith, omega arith, omega arith, omega arith)
bits_of Arith = (omega arith, omega arith, omega arith, omega arith)
bits_of Align = (omega arith, omega arith, omega arith, omega arith)
bits_of Out = (omega arith, omega arith, omega arith, omega arith)

fill_append : (ps : List Place) (ts : List Table) (qs : List Place) (us : List Table) → Fill ps ts → Fill qs us → Fill (ps ++ qs) (ts ++ us)
fill_append [] [] qs us h k = k
fill_append [] (t ∷ ts) qs us h k = absurd h
fill_append (p ∷ ps) [] qs us h k = absurd h
fill_append (p ∷ ps) (t ∷ ts) qs us h k = (h.0, fill_append ps ts qs us h.1 k)

module _ (rows : Air → List (List ℕ)) (count : Air → ℕ) where
  abbrev pub cut : Air → ℕ → Table
  cut air i = table_of air (columns_per air) i (rows air)

  pub are_named : AreNamed cut
  are_named = record { air = λ a i. refl; instance = λ a i. refl }

  abbrev pub tables : List Table
  tables = all_of cut are_named count airs

  abbrev pub witness : Witness
  witness = record { profile = Small; tables = tables }

  -- the values at their places
  pub value_is : (air : Air) (i k r : ℕ) → i < count air → k < columns_per air → r < rows_per air → value_at tables (air_number air) i k r ≡ slice_index (slice_index_or (rows air) (i * rows_per air + r) []) k
  value_is air i k r hi hk hr = ap (λ o. option_map_or (value_in k r) o 0) (find_in cut are_named count airs air i (all_among air) hi) ∙ value_there air (rows air) i k r hk hr

  pub how_many : (air : Air) → instances_of tables (air_number air) ≡ count air
  how_many air = instances_are cut are_named count air

  pub counts : counts_from 0 7 tables ≡ map count airs
  counts = counts_are cut are_named count

  module _ (few : AreFew count) (small : (air : Air) → All IsSmallRow (rows air)) where
    fits : (air : Air) (a i : ℕ) → air_number air ≡ a → i < count air → Fits (record { air = a; instance = i; form = air_shape air }) (cut air i)
    fits air a i e l =
        let b = bits_of air in
        let m = few.most air in
        record {
          air = e;
          instance = refl;
          columns = columns_long air (rows air) i;
          rows = columns_tall air (rows air) i;
          canonical = columns_small air (rows air) i (small air);
          bits = record { air = subst (λ n. n < 2 ^ 32) e b.3; instance = omega arith; columns = b.1; rows = b.0 };
        }

    fill_piece : (air : Air) (a i m : ℕ) → air_number air ≡ a → i + m ≤ count air → Fill (instances_from a (air_shape air) i m) (map (cut air) (range_with_len i m))
    fill_piece air a i zero e l = tt
    fill_piece air a i (suc m) e l =
        (fits air a i e (omega arith), subst (λ j. Fill (instances_from a (air_shape air) (suc i) m) (map (cut air) (range_with_len j m))) (one i) (fill_piece air a (suc i) m e (omega arith)))
      where
        one : (i : ℕ) → suc i ≡ i + 1
        one i = omega arith

    fill_all : (xs : List Air) (a : ℕ) → Numbered a xs → Fill (places_from a (map air_shape xs) (map count xs)) (all_of cut are_named count xs)
    fill_all [] a h = tt
    fill_all (x ∷ xs) a h =
        fill_append (instances_from a (air_shape x) 0 (count x)) (map (cut x) (range_with_len 0 (count x))) (places_from (suc a) (map air_shape xs) (map count xs)) (all_of cut are_named count xs)
        (fill_piece x a 0 (count x) h.0 (omega arith)) (fill_all xs (suc a) h.1)

    bits32 : (air : Air) → count air < 2 ^ 32
    bits32 air = let b = bits_of air in let m = few.most air in omega arith

    counted : AreCounts true 0 machine_airs (map count airs)
    counted = (
      record { main = λ e. few.main; most = few.most Main; bits = bits32 Main },
      (
        record { main = λ e. absurd (false≢true e); most = few.most Mem; bits = bits32 Mem },
        (
          record { main = λ e. absurd (false≢true e); most = few.most Binary; bits = bits32 Binary },
          (
            record { main = λ e. absurd (false≢true e); most = few.most Shift; bits = bits32 Shift },
            (
              record { main = λ e. absurd (false≢true e); most = few.most Arith; bits = bits32 Arith },
              (
                record { main = λ e. absurd (false≢true e); most = few.most Align; bits = bits32 Align },
                (record { main = λ e. absurd (false≢true e); most = few.out; bits = bits32 Out }, tt),
              ),
            ),
          ),
        ),
      ),
    )

    pub well_formed : HaveShape (machine_shape_of Two) witness
    well_formed = record {
      profile = tt;
      bits = omega arith;
      counted = subst (AreCounts true 0 machine_airs) (sym counts) counted;
      filled = subst (λ cs. Fill (places_from 0 machine_airs cs) tables) (sym counts) (fill_all airs 0 numbered);
    }
