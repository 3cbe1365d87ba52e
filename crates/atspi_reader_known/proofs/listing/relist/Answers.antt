use Rattle.std.proofs.Common.{Bool, false, ℕ, List, sym, subst, ◌∙◌}
use Rattle.atspi_protocol.specs.declared.news.part.PartName.{PartName}
use Rattle.atspi_reader_known.specs.Kept.{kept}
use Rattle.atspi_reader_known.specs.Listed.{IsListing}
use Rattle.atspi_reader_known.proofs.Cached.{app_of}
use Rattle.atspi_reader_known.proofs.Following.{listed_of, listed_put}
use Rattle.atspi_reader_known.proofs.listing.relist.Goals as goal

pub returns-in-Some : goal.returns-in-Some
returns-in-Some c = λ t once name root last.
    let o = kept c.args.cache.now in
    let refused = c.args.refused.now in
    subst (λ (r : Bool). IsListing c.put_listed.new.wants (app_of name root o r last refused)) (sym c.if-reload.false)
    (subst (λ (ws : List (List ℕ × PartName)). IsListing ws (app_of name root o false last refused)) (sym (listed_put c.all_wants.result _ _ c.all_wants.ensures (c.put_listed.ensures t)))
    (listed_of o c.in-Some.rows refused name root last (sym c.rows.ensures ∙ c.in-Some.is) once))
