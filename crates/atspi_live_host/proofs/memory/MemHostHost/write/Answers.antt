use Rattle.std.proofs.Common.{rules, ◌≡◌, arith, sym, subst}
use Rattle.std.specs.Option.{option_map}
use Rattle.atspi_live_host.specs.Numbers.{ToldBelow}
use Rattle.atspi_live_host.proofs.MemoryLemmas.{open_below, told_more}
use Rattle.atspi_live_host.proofs.memory.MemHostHost.write.Goals as goal

pub invariant_of-self-2 : goal.invariant_of-self-2
invariant_of-self-2 c =
    let n = c.args.self.now.next in
    let same : option_map (λ v. v.items) c.room_for.new.calls ≡ option_map (λ v. v.items) c.args.self.now.calls = search rules in
    record {
      below = c.args.self.now.below;
      told_below = told_more n n _ _ _ (omega arith) c.tell_given.ensures (open_below n c.args.link c.args.self.now.links.items c.requires.open c.args.self.now.below)
          (subst (λ w. ToldBelow n w) (sym same) c.args.self.now.told_below);
    }
