use Rattle.std.proofs.Common.{◌≡◌, ℕ, ◌++◌, List, length, append_assoc}
use Rattle.std.specs.List.{flat_map}
use Rattle.tab_file.specs.Format.{number, value}
use Rattle.tab_file.specs.Steps.{height}
use Rattle.tab_file.proofs.writing.put_table.Goals as goal

-- five texts that are written one after the other
five : (o1 o2 o3 o4 o5 o a b c d e : List ℕ) → o1 ≡ o ++ a → o2 ≡ o1 ++ b → o3 ≡ o2 ++ c → o4 ≡ o3 ++ d → o5 ≡ o4 ++ e → o5 ≡ o ++ (a ++ b ++ c ++ d ++ e)
five o1 o2 o3 o4 o5 o a b c d e e1 e2 e3 e4 e5 = rw (e5, e4, e3, e2, e1) (simp append_assoc)

pub returns : goal.returns
returns c =
    let t = c.args.table.now in
    five c.put_number.new.out.items c.put_number-2.new.out.items c.put_number-3.new.out.items c.put_number-4.new.out.items c.put_columns.new.out.items c.args.out.now.items
    (number t.air) (number t.instance) (number (length t.columns)) (number (height t.columns)) (flat_map (flat_map value) t.columns)
    c.in_ok-put_number.ensures c.in_ok-put_number-2.ensures (rw (← c.len.ensures) c.in_ok-put_number-3.ensures) (rw (← c.rows.ensures) c.in_ok-put_number-4.ensures) (rw (← c.as_slice.ensures.items) c.in_ok-put_columns.ensures)
