use Rattle.std.proofs.Common.{List, ℕ, ap, sym, subst, ◌∙◌}
use Rattle.std.proofs.lemmas.Bool.{and_parts}
use Rattle.atspi_protocol.specs.declared.news.part.PartName.{PartName}
use Rattle.atspi_protocol.specs.following.Replied.{refused_part}
use Rattle.atspi_reader_known.specs.Kept.{kept}
use Rattle.atspi_reader_known.specs.Listed.{IsListing}
use Rattle.atspi_reader_known.proofs.Cached.{app_of}
use Rattle.atspi_reader_known.proofs.Following.{refused_listed}
use Rattle.atspi_reader_known.proofs.app.App.refuse.Goals as goal

pub invariant_of-self-then-first : goal.invariant_of-self-then-first
invariant_of-self-then-first c =
    let i = c.self.inside in
    let before = app_of i.name i.root (kept i.cache) i.reload i.last i.refused in (
      c.self.invariant.0,
      c.self.invariant.1,
      λ e.
          let first = and_parts i.listed c.begins_with.result (sym c.both-first.ensures ∙ c.if-first.true) in
          subst (λ (r : List (List ℕ × PartName)). IsListing c.take_first.new.self (app_of i.name i.root (kept i.cache) i.reload i.last r)) (sym c.in_ok-push.ensures.ok)
          (subst (λ ws. IsListing ws (refused_part c.args.path c.args.part before)) (sym c.take_first.ensures)
          (refused_listed i.wants c.args.path c.args.part before (sym c.begins_with.ensures ∙ first.1) (c.self.invariant.2 first.0))),
    )

pub invariant_of-self-2 : goal.invariant_of-self-2
invariant_of-self-2 c =
    let i = c.self.inside in
    (c.self.invariant.0, c.self.invariant.1, λ e. c.relist-self-inside.ensures e c.self.invariant.1 i.name i.root i.last)

pub returns-then-first-clause-ok : goal.returns-then-first-clause-ok
returns-then-first-clause-ok c =
    let i = c.self.inside in
    ap (λ (r : List (List ℕ × PartName)). app_of i.name i.root (kept i.cache) i.reload i.last r) c.in_ok-push.ensures.ok
    ∙ ap (refused_part c.args.path c.args.part) c.self.view_is

pub returns-clause-ok : goal.returns-clause-ok
returns-clause-ok c =
    let i = c.self.inside in
    ap (λ (r : List (List ℕ × PartName)). app_of i.name i.root (kept i.cache) i.reload i.last r) c.in_ok-push.ensures.ok
    ∙ ap (refused_part c.args.path c.args.part) c.self.view_is
