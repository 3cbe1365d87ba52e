-- What the ground gives at each step: the shape of the world, who has which name, and that the registry lives.
use Rattle.std.proofs.Common.{◌≡◌, ℕ, List, Option, Some, ◌∙◌}
use Rattle.atspi_script_lines.specs.declared.line.Line.{Line}
use Rattle.atspi_script_lines.specs.declared.line.Party.TheVariants.{App}
use Rattle.atspi_trace.specs.Entry.{Entry}
use Rattle.atspi_trace.specs.World.{End, World}
use Rattle.atspi_trace.specs.Ends.{end_at}
use Rattle.atspi_trace_laws.specs.laws.Words.{name_in}
use Rattle.atspi_trace_laws.proofs.OfOrder.Shape.{Shape}
use Rattle.atspi_trace_laws.proofs.OfOrder.Growing.{Shaped}
use Rattle.atspi_trace_laws.proofs.OfOwn.Writing.{Lives}
use Rattle.atspi_trace_laws.proofs.OfNames.Places.{told_is}
use Rattle.atspi_trace_caches.proofs.OfSettled.Settling_ground as settling
use Rattle.atspi_trace_caches.proofs.OfSettled.Settling_ground.{Grounds, grounds, ground_keep, unique_is}
use Rattle.atspi_trace_caches.proofs.OfSettled.Settling_law.{registry_is_live}
use Rattle.atspi_trace_played.proofs.Facts.{Ground}

module _ (script : List Line) (es : List Entry) (w : World) (free : Option ℕ) (g : Ground script es w free) where
  pub shape : Shape w
  shape = (g.kept (Shaped settling.Ground) ground_keep).0

  pub known : Grounds es w
  known = grounds es w (g.kept (Shaped settling.Ground) ground_keep).1

  pub live : Lives es
  live = registry_is_live script es g.can g.goes g.nothing_owed w free g.kept g.here

  -- the unique name of an application's end
  pub name_is : (k a : ℕ) (e : End) (name : List ℕ) → end_at w.ends k ≡ Some e → e.who ≡ App a → e.unique ≡ Some name → name_in es (App a) ≡ Some name
  name_is k a e name there whose has = told_is es (App a) ∙ unique_is es w shape known k a e name there whose has
