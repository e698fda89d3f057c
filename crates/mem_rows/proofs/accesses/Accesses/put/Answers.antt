use Rattle.std.proofs.Common.{rules, ◌≡◌, ℕ, List, [], ◌∷◌, sym, subst}
use Rattle.mem_rows.specs.declared.access.Access.{Access}
use Rattle.chain_pool.specs.Lists.{Appends}
use Rattle.mem_rows.specs.Kept.{Adds, AreInReach}
use Rattle.mem_rows.proofs.Added.{adds_one, put_reach, key_low}
use Rattle.mem_rows.proofs.accesses.Accesses.put.Goals as goal

pub invariant_of-self : goal.invariant_of-self
invariant_of-self c = subst AreInReach (sym c.in_err-append.ensures.err) c.self.invariant

pub invariant_of-self-2 : goal.invariant_of-self-2
invariant_of-self-2 c =
    put_reach _ _ c.args.access c.requires (key_low _ _ c.key_of-key.ensures.value c.key_of-key.ensures.small) c.self.invariant
    (subst (λ (k : ℕ). Appends c.self.inside.pool c.append.new.self k c.args.access) c.key_of-key.ensures.value c.in_ok-append.ensures.ok)

pub returns : goal.returns
returns c =
    subst (λ (l : List (ℕ × List Access)). Adds l c.append.new.self (c.args.access ∷ [])) c.self.view_is
    (adds_one _ _ c.args.access (subst (λ (k : ℕ). Appends c.self.inside.pool c.append.new.self k c.args.access) c.key_of-key.ensures.value c.in_ok-append.ensures.ok))
