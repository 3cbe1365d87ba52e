use Rattle.std.proofs.Common.{refl, ap, sym, ◌∙◌, arith}
use Rattle.std.specs.Cmp.{nat_cmp_total}
use Rattle.std.specs.FinMap as finmap
use Rattle.std.specs.FinMap.{nat_cmp-IsAntisymmetric}
use Rattle.atspi_names.specs.Queue.{requested}
use Rattle.atspi_names.specs.Owners.{Owners, list_of, unique_name, after_hello}
use Rattle.atspi_names.proofs.Maps.{get-map, map-insert, map-undone}
use Rattle.atspi_names.proofs.BookLemmas.{kept, get-kept}
use Rattle.atspi_names.proofs.UniqueLemmas.{unique_name-injective}
use Rattle.atspi_names.proofs.OwnersLemmas.{early-hello, lists-hello, same_owners}
use Rattle.atspi_names.proofs.names.Names.hello.Goals as goal

pub returns-in-Err-clause-err : goal.returns-in-Err-clause-err
returns-in-Err-clause-err c =
    same_owners refl
    (map-undone nat_cmp_total nat_cmp-IsAntisymmetric c.self.inside.unique c.insert.new.self c.remove.new.self c.args.conn c.in_ok-copy.field-0
    (sym (get-map nat_cmp_total c.self.inside.unique c.args.conn) ∙ ap (λ (o : Owners). finmap.get o.unique c.args.conn) c.self.view_is ∙ c.requires)
    c.in_ok-insert.ensures.updates.0 c.remove.ensures.updates.0)
    c.in-Err.ensures.err
    ∙ c.self.view_is

pub invariant_of-self-2 : goal.invariant_of-self-2
invariant_of-self-2 c =
    early-hello c.self.inside.given c.self.inside.book c.request.new.self c.in_ok-name.name (requested (list_of c.self.inside.book c.in_ok-name.name) c.args.conn 0).0
    (omega arith) c.self.invariant c.in_ok-name.ensures c.in_default.ensures.lists

pub returns-clause-owners : goal.returns-clause-owners
returns-clause-owners c =
    same_owners refl
    (map-insert nat_cmp_total nat_cmp-IsAntisymmetric c.self.inside.unique c.insert.new.self c.args.conn c.in_ok-copy.field-0 c.in_ok-insert.ensures.updates.0
    ∙ ap (finmap.insert _ c.args.conn) (c.in_ok-copy.ensures ∙ c.in_ok-name.ensures))
    (lists-hello c.self.inside.given c.args.conn c.self.inside.book c.request.new.self c.in_ok-name.name (omega arith) c.self.invariant c.in_ok-name.ensures c.in_default.ensures.lists)
    ∙ ap (λ o. after_hello o c.args.conn) c.self.view_is

pub returns-clause-after : goal.returns-clause-after
returns-clause-after c = record {
  is = returns-clause-owners c;
  unnamed = c.requires;
  free = sym (ap (λ (o : Owners). finmap.get o.lists (unique_name o.given)) c.self.view_is)
      ∙ get-kept c.self.inside.book c.in_default.ensures.no_empty (unique_name c.self.inside.given)
      ∙ ap kept (c.self.invariant c.self.inside.given (omega arith) (omega arith));
}

pub returns-clause-new : goal.returns-clause-new
returns-clause-new c n lt e =
    let given = ap (λ (o : Owners). o.given) c.self.view_is in
    let same = unique_name-injective c.self.inside.given n (omega arith) (omega arith) (sym c.in_ok-name.ensures ∙ e) in
    absurd (omega arith)
