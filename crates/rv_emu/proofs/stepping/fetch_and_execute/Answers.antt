use Rattle.std.proofs.Common.{◌≡◌, Some, sym, ap, ◌∙◌}
use Rattle.rv_model.specs.Image.{fetch}
use Rattle.rv_model.specs.Code.{instr_of}
use Rattle.rv_emu.specs.Emulator.{state_of, old_here}
use Rattle.rv_emu.proofs.Executes.{leads_all, leads_nowhere, leads_illegal}
use Rattle.rv_emu.proofs.stepping.fetch_and_execute.Goals as goal

pub returns-in-None-clause-ok : goal.returns-in-None-clause-ok
returns-in-None-clause-ok c = leads_nowhere c.args.image.now (state_of c.args.cpu.now c.args.memory.now) (old_here c.args.image.now (state_of c.args.cpu.now c.args.memory.now)) c.args.olds.now.items (sym c.fetch.ensures ∙ c.in-None.is)

pub returns-in-None-decode-clause-ok : goal.returns-in-None-decode-clause-ok
returns-in-None-decode-clause-ok c =
    leads_illegal c.args.image.now (state_of c.args.cpu.now c.args.memory.now) c.in-Some.word (old_here c.args.image.now (state_of c.args.cpu.now c.args.memory.now)) c.args.olds.now.items (sym c.fetch.ensures ∙ c.in-Some.is) (sym c.decode.ensures.value ∙ c.in-None-decode.is)

pub returns-in-Some-decode-clause-ok : goal.returns-in-Some-decode-clause-ok
returns-in-Some-decode-clause-ok c =
    let fetched : fetch c.args.image.now c.args.cpu.now.pc ≡ Some c.in-Some.word = sym c.fetch.ensures ∙ c.in-Some.is in
    let is : instr_of (fetch c.args.image.now c.args.cpu.now.pc) ≡ Some c.in-Some-decode.instr = ap instr_of fetched ∙ sym c.decode.ensures.value ∙ c.in-Some-decode.is in
    leads_all c.args.image.now (state_of c.args.cpu.now c.args.memory.now) _ c.in-Some-decode.instr c.execute.result c.args.olds.now.items _ is c.execute.ensures.ok
