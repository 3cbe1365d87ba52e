use Rattle.std.proofs.Common.{[], ◌∷◌, length, rules, arith, sym, ap, subst}
use Rattle.atspi_script_lines.specs.inner.Reading.{LeadAll}
use Rattle.std.proofs.Common.{length-append}
use Rattle.atspi_script_lines.specs.Forms.{action_clauses}
use Rattle.atspi_script_lines.proofs.ClauseLemmas.{all_actions, more_actions, no_more_actions, too_many_actions}
use Rattle.atspi_script_lines.proofs.inserts.read_actions.Goals as goal

pub returns-then-len-eq-ACTION_LIMIT : goal.returns-then-len-eq-ACTION_LIMIT
returns-then-len-eq-ACTION_LIMIT c = λ t s. too_many_actions c.loop-rest.names c.loop-rest.rest.now c.args.bytes.now c.loop-rest.invariant.done (search rules) (omega arith) t s.0 s.1

pub returns-in_default : goal.returns-in_default
returns-in_default c = λ t s. no_more_actions c.loop-rest.names c.loop-rest.rest.now c.args.bytes.now c.loop-rest.invariant.done (search rules) (rw c.in_default.is at c.in_ok-name.ensures) t s.1

pub loop-rest-preserved : goal.loop-rest-preserved
loop-rest-preserved c = record {
  done = subst (λ l. LeadAll (action_clauses l) c.in-Some.behind.now c.args.bytes.now) (sym c.in_ok-push.ensures.ok)
      (more_actions c.loop-rest.names c.in-Some.name c.loop-rest.rest.now c.in-Some.behind.now c.args.bytes.now c.loop-rest.invariant.done (rw c.in-Some.is at c.in_ok-name.ensures));
  few = omega (arith, ap length c.in_ok-push.ensures.ok, length-append c.loop-rest.names (c.in-Some.name ∷ []));
}

pub returns : goal.returns
returns c = (c.loop-rest.invariant.few, all_actions c.loop-rest.names c.loop-rest.rest.now c.args.bytes.now c.loop-rest.invariant.done (search rules))
