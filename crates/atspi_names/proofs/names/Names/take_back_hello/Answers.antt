use Rattle.std.proofs.Common.{◌-◌, [], sym, ap, ◌∙◌, subst, arith}
use Rattle.std.specs.Prelude.{unwrap_or}
use Rattle.std.specs.Cmp.{nat_cmp_total}
use Rattle.std.specs.FinMap as finmap
use Rattle.std.specs.FinMap.{nat_cmp-IsAntisymmetric}
use Rattle.atspi_names.specs.Owners.{Owners}
use Rattle.atspi_names.specs.Hello.{IsAfterHello}
use Rattle.atspi_names.proofs.Maps.{get-map, map-remove}
use Rattle.atspi_names.proofs.OwnersLemmas.{same_owners}
use Rattle.atspi_names.proofs.HelloLemmas.{hello-named, lists-taken_back, unique-taken_back, early-taken_back}
use Rattle.atspi_names.proofs.names.Names.take_back_hello.Goals as goal

pub unreachable-requires : goal.unreachable-requires
unreachable-requires c =
    let named = sym c.in_default.is ∙ c.remove.ensures.value ∙ sym (get-map nat_cmp_total c.self.inside.unique c.args.conn)
    ∙ ap (λ (o : Owners). finmap.get o.unique c.args.conn) c.self.view_is ∙ hello-named c.requires.0 c.args.self.now c.args.conn c.requires.1 in
    cc

pub invariant_of-self : goal.invariant_of-self
invariant_of-self c =
    let before = c.requires.0 in
    let h = subst (λ (o : Owners). IsAfterHello before o c.args.conn) (sym c.self.view_is) c.requires.1 in
    let named = sym c.in-Some.is ∙ c.remove.ensures.value ∙ sym (get-map nat_cmp_total c.self.inside.unique c.args.conn) ∙ hello-named before _ c.args.conn h in
    let one = ap (λ (o : Owners). o.given) h.is in
    early-taken_back before _ c.args.conn (c.self.inside.given - 1) c.release.new.self h (omega arith) c.self.invariant (omega (arith, one))
    (lists-taken_back before _ c.args.conn c.release.new.self c.in-Some.name h (ap (λ o. unwrap_or o []) named) c.release.ensures.lists)

pub returns : goal.returns
returns c before given =
    let h = subst (λ (o : Owners). IsAfterHello before o c.args.conn) (sym c.self.view_is) given in
    let named = sym c.in-Some.is ∙ c.remove.ensures.value ∙ sym (get-map nat_cmp_total c.self.inside.unique c.args.conn) ∙ hello-named before _ c.args.conn h in
    let one = ap (λ (o : Owners). o.given) h.is in
    same_owners (omega (arith, one))
    (map-remove nat_cmp_total nat_cmp-IsAntisymmetric c.self.inside.unique c.remove.new.self c.args.conn c.remove.ensures.updates.0 ∙ unique-taken_back before _ c.args.conn h)
    (lists-taken_back before _ c.args.conn c.release.new.self c.in-Some.name h (ap (λ o. unwrap_or o []) named) c.release.ensures.lists)
