use Rattle.std.proofs.Common.{◌≡◌, ◌++◌, ◌∷◌, [], ℕ, List, map, ap, ◌∙◌}
use Rattle.std.specs.List.{range_with_len}
use Rattle.rv_word.specs.declared.instr.Instr.{Instr}
use Rattle.demo_program.specs.Draws.{draw}
use Rattle.demo_program.specs.Program.{drawn, instructions, leave, put_out, set_base, set_value}
use Rattle.demo_program.proofs.Listing.{drawn_later}
use Rattle.demo_program.proofs.program.instructions.Goals as goal

pub returns : goal.returns
unfolding instructions
returns c =
    let then : List Instr → List Instr → List Instr = λ part front. front ++ part in
    let number : ℕ = c.args.number in
    let one : c.push.new.self.items ≡ set_base 0x60000 ∷ [] = c.in_ok-push.ensures.items ∙ ap (λ (xs : List Instr). xs ++ c.set_base.result ∷ []) c.new-program.ensures.items ∙ ap (λ (i : Instr). i ∷ []) c.set_base.ensures in
    let two : c.push_values.new.program.items ≡ set_base 0x60000 ∷ [] ++ map (set_value number) (range_with_len 0 8) = c.in_ok-push_values.ensures.items ∙ ap (then (map (set_value number) (range_with_len 0 8))) one in
    let drew : map (λ k. drawn c.args.kind (draw c.push_values.new.draws.state k)) (range_with_len 0 c.args.size) ≡ map (λ k. drawn c.args.kind (draw number k)) (range_with_len 8 c.args.size) =
    ap (λ (s : ℕ). map (λ k. drawn c.args.kind (draw s k)) (range_with_len 0 c.args.size)) c.in_ok-push_values.ensures.state ∙ drawn_later c.args.kind number 8 0 c.args.size in
    let three = c.in_ok-push_drawn.ensures ∙ ap (λ (xs : List Instr). c.push_values.new.program.items ++ xs) drew ∙ ap (then (map (λ k. drawn c.args.kind (draw number k)) (range_with_len 8 c.args.size))) two in
    let four = c.in_ok-push-2.ensures.items ∙ ap (λ (i : Instr). c.push_drawn.new.program.items ++ i ∷ []) c.set_base-2.ensures ∙ ap (then (set_base 0x50000 ∷ [])) three in
    let five = c.in_ok-push_output.ensures ∙ ap (then (map put_out (range_with_len 0 8))) four in
    c.in_ok-push_leave.ensures ∙ ap (then leave) five
