use Rattle.std.proofs.Common.{rules, ◌≡◌, ℕ, List, ◌++◌, refl, ap, ◌∙◌}
use Rattle.atspi_auth.specs.Talk.{told}
use Rattle.atspi_auth.specs.declared.fault.AuthFault.TheVariants as faults
use Rattle.std.proofs.lemmas.List.{take_rest}
use Rattle.atspi_live_host.specs.declared.call.Did.TheVariants.{Done}
use Rattle.atspi_live_bus.proofs.Conversing.{heard_on, lost_lines, not_lost, refused, speech_more, speech_of}
use Rattle.atspi_live_bus.proofs.link.Link.hear.Goals as goal

pub returns-in-Err-NoZero : goal.returns-in-Err-NoZero
returns-in-Err-NoZero c =
    let not : c.in-Err-NoZero.field-0 ≡ faults.NoMemory → ⊥ = λ e. search rules in
    record {
      ok = λ n m h t g v. (
        lost_lines m h c.args.self.now t g c.args.piece.now (Done n) c.in-Err-NoZero.field-0
            (refused c.in-Err-NoZero.field-0 c.args.self.now.server c.feed.new.self (told c.args.self.now.server c.args.piece.now) not c.in-Err-NoZero.ensures.fault) v,
        speech_more m h t c.args.piece.now g (speech_of m h c.args.self.now t g v),
      );
      number = refl;
      conn = refl;
      cause = tt;
    }

pub returns-in-Ok-feed-clause-ok : goal.returns-in-Ok-feed-clause-ok
returns-in-Ok-feed-clause-ok c n m h t g v =
    let w =
    heard_on m h c.args.self.now _ t g c.args.piece.now c.in-Ok.ensures.ok
    (c.in-Ok-feed.ensures.ok ∙ ap (λ (w : List ℕ). c.args.self.now.feeder ++ w) (take_rest c.args.piece.now c.in-Ok.taken ∙ c.in-Ok.ensures.behind)) refl c.in-Ok.ensures.no_fault v
    in
    ((λ lost. not_lost m h _ _ g (Done n) w tt lost), w)
