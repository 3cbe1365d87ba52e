use Rattle.std.proofs.Common.{◌≡◌, rules, refl, ap, ◌∙◌, chars}
use Rattle.std.specs.Prelude.{bytes_eq}
use Rattle.atspi_app_known.proofs.OfHeard.Same.{same_text}
use Rattle.atspi_app_known.proofs.heard.heard.is_pair.Goals as goal

pub returns-then-eq : goal.returns-then-eq
returns-then-eq c =
    let texts : bytes_eq c.args.pattern.now c.as_str-then-eq.result.now ≡ bytes_eq (chars c.args.pattern.now) (chars c.as_str-then-eq.result.now) = same_text c.args.pattern.now c.as_str-then-eq.result.now (chars c.args.pattern.now) c.utf8.pattern c.as_str-then-eq.utf8 refl in
    let pattern = texts ∙ ap (bytes_eq (chars c.args.pattern.now)) c.as_str-then-eq.ensures.chars in
    search (rules, pattern)
