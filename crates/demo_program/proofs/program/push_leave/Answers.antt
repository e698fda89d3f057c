use Rattle.std.proofs.Common.{◌≡◌, ◌++◌, ◌∷◌, [], List, pos, false, ap, ◌∙◌}
use Rattle.std.proofs.lemmas.List.{append_assoc}
use Rattle.rv_word.specs.declared.instr.Instr.{Instr}
use Rattle.rv_word.specs.declared.instr.Instr.TheVariants.{OpImm, Ecall}
use Rattle.rv_word.specs.declared.instr.OpNo.TheVariants as ops
use Rattle.demo_program.specs.Program.{leave}
use Rattle.demo_program.proofs.program.push_leave.Goals as goal

pub returns : goal.returns
unfolding leave
returns c =
    let call : c.set.result ≡ OpImm ops.Add 17 0 (pos 93) false = cc (c.set.ensures, c.new.ensures) in
    let code : c.set-2.result ≡ OpImm ops.Add 10 0 (pos 0) false = cc (c.set-2.ensures, c.new-2.ensures) in
    let old : List Instr = c.args.program.now.items in
    let all : c.push-3.new.self.items ≡ old ++ c.set.result ∷ [] ++ c.set-2.result ∷ [] ++ Ecall ∷ [] = c.in_ok-push-3.ensures.items ∙ ap (λ (xs : List Instr). xs ++ Ecall ∷ []) (c.in_ok-push-2.ensures.items ∙ ap (λ (xs : List Instr). xs ++ c.set-2.result ∷ []) c.in_ok-push.ensures.items) in
    let joined : old ++ c.set.result ∷ [] ++ c.set-2.result ∷ [] ++ Ecall ∷ [] ≡ old ++ (c.set.result ∷ c.set-2.result ∷ Ecall ∷ []) = simp append_assoc in
    all ∙ joined ∙ ap (λ (xs : List Instr). old ++ xs) (cc (call, code))
