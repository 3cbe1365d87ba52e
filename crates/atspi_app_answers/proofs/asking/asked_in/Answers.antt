use Rattle.std.proofs.Common.{ℕ, List, [], Option, subst}
use Rattle.std.specs.Prelude.{unwrap_or}
use Rattle.atspi_message_in_place.specs.View.{bytes_of, envelope_at}
use Rattle.atspi_app_calls.specs.Object.{object_of}
use Rattle.atspi_app_answers.specs.declared.place.AppPlace.{AppPlace}
use Rattle.atspi_app_answers.proofs.PlaceLemmas.{IsPlace, asks_nobody, asks_this, asks_wrong}
use Rattle.atspi_app_answers.proofs.asking.asked_in.Goals as goal

pub returns-in_default-clause-asked : goal.returns-in_default-clause-asked
returns-in_default-clause-asked c =
    let t = c.args.tree.now in
    let at = subst (λ (path : List ℕ). IsPlace t path c.place_at.result) c.path_or_empty.ensures c.place_at.ensures.place in
    asks_nobody t (envelope_at c.args.call.now) (subst (λ (r : Option AppPlace). IsPlace t (unwrap_or (bytes_of c.args.call.now.path) []) r) c.in_default.is at)

pub returns-in-Ok-clause-asked : goal.returns-in-Ok-clause-asked
returns-in-Ok-clause-asked c =
    let t = c.args.tree.now in
    let at = subst (λ (path : List ℕ). IsPlace t path c.place_at.result) c.path_or_empty.ensures c.place_at.ensures.place in
    asks_this t (envelope_at c.args.call.now) c.in-Some.place (object_of c.object_of.result) c.in-Ok.ask
    (subst (λ (r : Option AppPlace). IsPlace t (unwrap_or (bytes_of c.args.call.now.path) []) r) c.in-Some.is at)
    c.object_of.ensures c.in-Ok.ensures

pub returns-in-Err-clause-asked : goal.returns-in-Err-clause-asked
returns-in-Err-clause-asked c =
    let t = c.args.tree.now in
    let at = subst (λ (path : List ℕ). IsPlace t path c.place_at.result) c.path_or_empty.ensures c.place_at.ensures.place in
    asks_wrong t (envelope_at c.args.call.now) c.in-Some.place (object_of c.object_of.result) c.in-Err.error
    (subst (λ (r : Option AppPlace). IsPlace t (unwrap_or (bytes_of c.args.call.now.path) []) r) c.in-Some.is at)
    c.object_of.ensures c.in-Err.ensures
