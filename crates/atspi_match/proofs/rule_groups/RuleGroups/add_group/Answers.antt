use Rattle.std.proofs.Common.{sym, ap, ◌∙◌, subst}
use Rattle.std.specs.Option.{option_copied}
use Rattle.std.proofs.lemmas.Bool.{false≢true}
use Rattle.std.proofs.lemmas.Result.{on_ok_weaker}
use Rattle.std.specs.List.{Contains}
use Rattle.std.proofs.lemmas.List.Elements.{Contains-append_left}
use Rattle.atspi_match.specs.Noted.{has_place}
use Rattle.atspi_match.proofs.NotedLemmas.{group_added}
use Rattle.atspi_match.proofs.rule_groups.RuleGroups.add_group.Goals as goal

pub returns-in-Some-clause-all : goal.returns-in-Some-clause-all
returns-in-Some-clause-all c =
    on_ok_weaker c.append_places.result
    (λ e q h. group_added c.args.places.now.items c.append_places.new.places.items c.in-Some.group.now.places.keys q e
    (ap (λ o. has_place (option_copied o) q) (sym c.in-Some.is) ∙ c.get.ensures q ∙ h))
    c.append_places.ensures

pub returns-in-Some-clause-stays : goal.returns-in-Some-clause-stays
returns-in-Some-clause-stays c =
    on_ok_weaker c.append_places.result
    (λ e q h. subst (λ l. Contains l q) (sym e) (Contains-append_left c.args.places.now.items c.in-Some.group.now.places.keys q h))
    c.append_places.ensures

pub returns-in-None-clause-all : goal.returns-in-None-clause-all
returns-in-None-clause-all c q h =
    absurd (false≢true (ap (λ o. has_place (option_copied o) q) (sym c.in-None.is) ∙ c.get.ensures q ∙ h))
