use Rattle.std.proofs.Common.{rules, ◌≡◌, ◌==◌, ◌%◌, ◌<◌, ◌≤◌, ◌^◌, ◌++◌, zero, suc, true, [], ◌∷◌, length, All, refl, ap, ◌∙◌, inl, arith}
use Rattle.std.proofs.lemmas.Grind.{common_steps}
use Rattle.std.proofs.lemmas.List.Elements.{All-nil}
use Rattle.std.proofs.lemmas.Bool.{eq-eqb}
use Rattle.std.proofs.lemmas.Bool.Decides.{nat_tests}
use Rattle.rv_model.specs.Image.{Seg, IsSegment, IsLoadable, runs_at, fetch}
use Rattle.wit_pool.proofs.tests.image_of.Goals as goal

all_of_one : (s : Seg) → IsSegment s → All IsSegment (s ∷ [])
all_of_one s is zero d below = is
all_of_one s is (suc k) d below = absurd (omega arith)

-- an image of one executable segment that begins with the entry
one_segment : (s : Seg) → IsSegment s → s.exec ≡ true → s.start % 4 ≡ 0 → 4 ≤ s.len → length s.bytes ≤ 2 ^ 24 → IsLoadable (record { entry = s.start; segments = s ∷ []; input = [] })
unfolding fetch
one_segment s is exec multiple room few =
    let aligned : (s.start % 4 == 0) ≡ true = eq-eqb _ _ multiple in
    let runs : runs_at s.start s ≡ true = grind (arith, nat_tests) in
    record {
      segments = all_of_one s is;
      ascending = λ i j d less below. absurd (omega arith);
      loaded = omega arith;
      input = omega arith;
      octets = All-nil (λ b. b < 256);
      entry = rw (aligned, runs) (search rules);
    }

pub new-requires : goal.new-requires
new-requires c =
    let s : Seg = record { start = 0x1_0078; len = c.len-2.result; exec = true; bytes = c.loop-word.bytes.items } in
    let fit : length c.loop-word.bytes.items ≤ c.len-2.result = grind (arith, common_steps) in
    let some : 4 ≤ c.len-2.result = grind (arith, common_steps) in
    let few : c.len-2.result ≤ 65536 = grind (arith, common_steps) in
    let is : IsSegment s = record { some = omega arith; below = omega arith; bytes_fit = fit; octets = rw c.deref.ensures.value at c.bytes_law.ensures; off_input = inl (omega arith); off_output = inl (omega arith) } in
    let items : c.push.new.self.items ≡ s ∷ [] = c.in_ok-push.ensures.items ∙ ap (λ xs. xs ++ s ∷ []) c.new-segments.ensures.items in
    rw (c.from.ensures, items, c.new-input.ensures.items) (one_segment s is refl refl some (omega arith))
