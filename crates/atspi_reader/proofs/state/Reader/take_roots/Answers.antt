use Rattle.std.proofs.Common.{List, ℕ, true, length, ap, ◌∙◌}
use Rattle.std.specs.List.{fold, list_any}
use Rattle.atspi_message_in_place.specs.View.{envelope_at}
use Rattle.atspi_protocol.specs.news.NewsOf.{or_empty}
use Rattle.atspi_tree_model.specs.declared.news.Reference.{Reference}
use Rattle.atspi_protocol.specs.following.ReaderState.{Followed, is_named}
use Rattle.atspi_protocol.specs.following.Known.{made_known}
use Rattle.atspi_protocol.specs.following.Takes.{goes_on}
use Rattle.atspi_reader.specs.ReaderOf.{reader_of}
use Rattle.atspi_reader.proofs.Done.{same_step}
use Rattle.atspi_reader.proofs.Replies.{answered_in, rooted_done, rooted_failed, roots_is}
use Rattle.atspi_reader.proofs.state.Reader.take_roots.Goals as goal

pub returns-in-Ok : goal.returns-in-Ok
returns-in-Ok c =
    let s = reader_of c.args.self.now in
    let e = envelope_at c.args.m.now in
    let all = c.make_known.new.apps in
    let known = c.in_ok-make_known.ensures.ok ∙ ap (λ (l : List Reference). fold made_known s.apps l) c.in_ok-told.ensures in
    let heard = c.has-heard.ensures ∙ ap (λ (n : List ℕ). list_any (is_named n) s.apps) c.sender_of.ensures in
    same_step _ _ _ _ _
    (ap (λ o. goes_on (answered_in s e c.has-heard.result true o all)) c.in_ok-registry.ensures
    ∙ ap (λ b. goes_on (answered_in s e b true e.sender all)) heard
    ∙ ap (λ (l : List Followed). goes_on (answered_in s e (list_any (is_named (or_empty e.sender)) s.apps) true e.sender l)) known
    ∙ ap goes_on (roots_is s e))
    (rooted_done s (reader_of c.proceeds_now.new.self) (reader_of c.root.new.self) all e c.has-heard.result c.in_ok-registry.registry _ c.in-Ok.next c.in-Ok.ensures c.root.ensures)

pub returns-in-Err : goal.returns-in-Err
returns-in-Err c =
    let s = reader_of c.args.self.now in
    let e = envelope_at c.args.m.now in
    let all = c.make_known.new.apps in
    let known = c.in_ok-make_known.ensures.ok ∙ ap (λ (l : List Reference). fold made_known s.apps l) c.in_ok-told.ensures in
    let heard = c.has-heard.ensures ∙ ap (λ (n : List ℕ). list_any (is_named n) s.apps) c.sender_of.ensures in
    same_step _ _ _ _ _
    (ap (λ o. goes_on (answered_in s e c.has-heard.result true o all)) c.in_ok-registry.ensures
    ∙ ap (λ b. goes_on (answered_in s e b true e.sender all)) heard
    ∙ ap (λ (l : List Followed). goes_on (answered_in s e (list_any (is_named (or_empty e.sender)) s.apps) true e.sender l)) known
    ∙ ap goes_on (roots_is s e))
    (rooted_failed s (reader_of c.proceeds_now.new.self) (reader_of c.unlearn.new.self) all e c.has-heard.result c.in_ok-registry.registry c.in-Err.fault (length c.as_slice-known.result.now) c.in-Err.ensures c.unlearn.ensures
    (ap length c.as_slice-known.ensures) c.in_ok-make_known.ensures.front.front)
