-- Each rule that an end asks for is what its text spells: a printed rule is read again.
use Rattle.std.proofs.Common.{refl, lit<, lit≤}
use Rattle.atspi_base.specs.valid_names.Names.{IsBusName, IsInterface, IsMember, is_bus_name, is_interface, is_member}
use Rattle.atspi_base.specs.valid_names.Elements.{are_two_or_more, are_elements, parts_of}
use Rattle.atspi_base.proofs.OfValidNames.NameLemmas.{IsBusName-from_test, IsInterface-from_test, IsMember-from_test}
use Rattle.atspi_match.specs.Conditions.{IsRule}
use Rattle.atspi_match.proofs.AgainLemmas.{printed_again}
use Rattle.atspi_protocol.specs.ends.Places.{bus, registry}
use Rattle.atspi_protocol.specs.members.Interfaces.{cache}
use Rattle.atspi_protocol.specs.news.NewsOf.{event_interface}
use Rattle.std.specs.Prelude.{codes}
use Rattle.atspi_trace.specs.Rules.{registry_rule, owner_rule, cache_rule, event_rule}
use Rattle.atspi_trace.specs.Laws.{RulesAreRead}

registry_name : IsBusName registry
unfolding is_bus_name are_two_or_more are_elements parts_of
registry_name = IsBusName-from_test registry refl

registry_interface : IsInterface registry
unfolding is_interface are_two_or_more are_elements parts_of
registry_interface = IsInterface-from_test registry refl

bus_interface : IsInterface bus
unfolding is_interface are_two_or_more are_elements parts_of
bus_interface = IsInterface-from_test bus refl

cache_interface : IsInterface cache
unfolding is_interface are_two_or_more are_elements parts_of
cache_interface = IsInterface-from_test cache refl

events : IsInterface event_interface
unfolding is_interface are_two_or_more are_elements parts_of
events = IsInterface-from_test event_interface refl

owner_changed : IsMember (codes "NameOwnerChanged")
unfolding is_member
owner_changed = IsMember-from_test (codes "NameOwnerChanged") refl

registry_is : IsRule registry_rule
registry_is = record {
  rising = ((lit< tt, (lit< tt, tt)), ((lit< tt, tt), (tt, tt)));
  each = (tt, (registry_name, (registry_interface, tt)));
  one_path = refl;
}

owner_is : IsRule owner_rule
owner_is = record {
  rising = ((lit< tt, (lit< tt, tt)), ((lit< tt, tt), (tt, tt)));
  each = (tt, (bus_interface, (owner_changed, tt)));
  one_path = refl;
}

cache_is : IsRule cache_rule
cache_is = record { rising = ((lit< tt, tt), (tt, tt)); each = (tt, (cache_interface, tt)); one_path = refl }

event_is : IsRule event_rule
event_is = record { rising = ((lit< tt, tt), (tt, tt)); each = (tt, (events, tt)); one_path = refl }

pub rules_read : RulesAreRead
rules_read = (
  printed_again registry_rule registry_is (lit≤ tt),
  (
    printed_again owner_rule owner_is (lit≤ tt),
    (
      printed_again cache_rule cache_is (lit≤ tt),
      (printed_again event_rule event_is (lit≤ tt), tt),
    ),
  ),
)
