-- Each application whose start is over embedded, along a lawful trace.
use Rattle.std.proofs.Common.{◌≡◌, inl, ℕ, ◌≤◌, Bool, true, false, List, [], ◌∷◌, ◌++◌, map, None, Some, refl, sym, ap, ◌∙◌, subst, arith}
use Rattle.std.specs.Prelude.{◌&&◌, nat_lt, if◌then◌else◌}
use Rattle.std.specs.List.{AllByRecursion, cons_option}
use Rattle.std.proofs.lemmas.List.{append-nil}
use Rattle.atspi_script_lines.specs.declared.limits.TheConstants.{QUOTA_MOST}
use Rattle.atspi_script_lines.specs.declared.line.Party.TheVariants.{Registry, App}
use Rattle.atspi_message.specs.Envelope.{Envelope}
use Rattle.atspi_protocol.specs.exporting.Exporter.{hello, Phase, over, begins as begins_app}
use Rattle.atspi_protocol.specs.exporting.Starting.{start_call, starts}
use Rattle.atspi_protocol.specs.exporting.Taking.{app_takes}
use Rattle.atspi_trace.specs.Entry.{Entry, started, sent}
use Rattle.atspi_trace.specs.World.{an_application, End, World, newcomer}
use Rattle.atspi_trace.specs.Ends.{is_here, same_party, number_of, whose, end_at, put_up, taken_down, app_count}
use Rattle.atspi_trace.specs.Causes.{Done, did, app_starts}
use Rattle.atspi_trace_laws.specs.laws.Words.{messages}
use Rattle.atspi_trace_laws.proofs.OfOrder.Parties.{no_none, same_some, party-same, false_true}
use Rattle.atspi_trace_laws.proofs.OfOrder.Along.{Keeps}
use Rattle.atspi_trace_laws.proofs.OfOrder.Growing.{Grows, Shaped, Nothing, And, grown}
use Rattle.atspi_trace_laws.proofs.OfOrder.Shape.{Shape}
use Rattle.atspi_trace_laws.proofs.OfOrder.Shaped.{received_at}
use Rattle.atspi_trace_laws.proofs.OfOrder.Acts.{IsActive, number_at, last_at}
use Rattle.atspi_trace_laws.proofs.OfOrder.Effects.{received, AppTakes}
use Rattle.atspi_trace_laws.proofs.OfOrder.Told.{Tells}
use Rattle.atspi_trace_laws.proofs.OfReaders.Fates.{both_keep}
use Rattle.atspi_trace_laws.proofs.OfSerials.Serial.{messages_more}
use Rattle.atspi_trace_laws.proofs.OfSerials.Numbers.{Numbered}
use Rattle.atspi_trace_laws.proofs.OfSteps.Steps.{Trees}
use Rattle.atspi_trace_laws.proofs.OfOwn.Writing.{Lives}
use Rattle.atspi_trace_laws.proofs.OfQuiet.Here.{Present, LiveHere, present_keeps}
use Rattle.atspi_trace_laws.proofs.OfSigned.Mail.{IsMail}
use Rattle.atspi_trace_laws.proofs.OfSigned.Self.{Selves}
use Rattle.atspi_trace_laws.proofs.OfMissed.Arriving.{On}
use Rattle.atspi_trace_caches.proofs.OfServed.Facts.{AllHear}
use Rattle.atspi_trace_caches.proofs.OfServed.Returned.{Fits}
use Rattle.atspi_trace_caches.proofs.OfServed.HearingCourse.{edit_course}
use Rattle.atspi_trace_caches.proofs.OfServed.HearingTuned.{AllTuned}
use Rattle.atspi_trace_caches.proofs.OfServed.Hearing.{Under_heard, hears_keep, derived}
use Rattle.atspi_trace_caches.proofs.OfSettled.Facts.{AllEmbed}
use Rattle.atspi_trace_caches.proofs.OfSettled.RefusingLeft.{IsAway}
use Rattle.atspi_trace_caches.proofs.OfSettled.RefusingRules.{counted, adds_among}
use Rattle.atspi_trace_caches.proofs.OfSettled.Refusing.{Excused, Refusing, Under_refusing, refusing_keeps, Below, below}
use Rattle.atspi_trace_caches.proofs.OfSettled.Answering.{Answering, Under_answering, answering_keeps}
use Rattle.atspi_trace_caches.proofs.OfSettled.Exporting.{acting, AllApps, apps_kept, first_apps, asked_apps, moved_apps}
use Rattle.atspi_trace_caches.proofs.OfSettled.Embedding.{Begins, NamesItself, no_embed_names, begins_more, begins_taken, begins_edited}

-- THE REGISTRY THAT LIVES is here
first_there : (ends : List End) (k : ℕ) (e : End) → end_at ends k ≡ Some e → (x : End) × (end_at ends 0 ≡ Some x)
first_there [] k e h = absurd (no_none e h)
first_there (x ∷ xs) k e h = (x, refl)

pub registry_stays : (es : List Entry) (w : World) → Shape w → LiveHere es w → Lives es → IsAway w.ends 0 → ⊥
registry_stays es w s present live gone =
    let a : IsActive w Registry = present Registry (λ h. false_true (ap (λ p. same_party p Registry) (sym h))) live live in
    let first = first_there w.ends a.conn a.e a.there in
    let at : 0 ≡ a.conn = s.one 0 a.conn first.0 a.e first.1 a.there (s.registry first.0 first.1 ∙ sym a.whose) in
    let same : first.0 ≡ a.e = same_some first.0 a.e (sym first.1 ∙ ap (end_at w.ends) at ∙ a.there) in
    false_true (sym (gone first.0 first.1) ∙ ap (λ (x : End). is_here x.standing) same ∙ ap is_here a.standing)

-- AN APPLICATION STARTS
abbrev is_over : Phase → Bool
is_over over = true
is_over phase = false

module _ (es : List Entry) (w : World) (name : List ℕ) (m : Numbered es w) where
  abbrev n : ℕ
  n = app_count w.ends

  abbrev first_call : Envelope
  first_call = record (start_call [] hello) { serial = 1 }

  least : (x : ℕ) → x ≤ x
  least x = omega arith

  wrote : (app_starts w name).entries ≡ started (App n) (Some name) ∷ (sent (App n) first_call ∷ [])
  wrote = ap (λ k. started (App n) (Some name) ∷ (sent (App k) first_call ∷ [])) (ap (λ o. number_of (whose o)) (last_at w.ends (put_up [] (newcomer (App n) (an_application (begins_app name))))))

  all : messages (es ++ (app_starts w name).entries) (App n) ≡ first_call ∷ []
  all =
      messages_more es (app_starts w name).entries (App n)
      ∙ ap (λ l. l ++ messages (app_starts w name).entries (App n)) (m.2 (App n) (least n)) ∙ ap (λ l. messages l (App n)) wrote ∙ ap (λ b. cons_option (if b then Some first_call else None) []) (party-same (App n))

  no_more : (b : Bool) → counted (b && false) 0 ≤ 0
  no_more true = omega arith
  no_more false = omega arith

  pub begins_first : Begins (es ++ (app_starts w name).entries) n (record (starts (begins_app name)) { out = [] })
  begins_first = record {
    adds = λ k. subst (λ ms. adds_among k ms ≤ 0) (sym all) (no_more (nat_lt 1 k));
    names = subst (AllByRecursion (NamesItself (es ++ (app_starts w name).entries) n)) (sym all) (no_embed_names (es ++ (app_starts w name).entries) n [] hello 1 refl, tt);
    embeds = λ h. absurd (false_true (ap is_over h));
  }

-- THE LAYERS
abbrev pub Under_embed : List Entry → World → Type 0
Under_embed es w = And (And (And Under_heard AllTuned) AllHear) (And (And Under_refusing Refusing) (And (And Under_answering Answering) (And (And Nothing Tells) Present))) es w

under_keeps : Keeps (Shaped Under_embed)
under_keeps =
    both_keep (And (And Under_heard AllTuned) AllHear) (And (And Under_refusing Refusing) (And (And Under_answering Answering) (And (And Nothing Tells) Present))) hears_keep
    (both_keep (And Under_refusing Refusing) (And (And Under_answering Answering) (And (And Nothing Tells) Present)) refusing_keeps
    (both_keep (And Under_answering Answering) (And (And Nothing Tells) Present) answering_keeps present_keeps))

abbrev pub AllBegin : List Entry → World → Type 0
AllBegin es w = AllApps Begins begins_more es w

numbers_of : (es : List Entry) (w : World) → Under_embed es w → Numbered es w
numbers_of es w u = u.1.0.0.0.0.1.0.0.0.0.1

trees_of : (es : List Entry) (w : World) → Under_embed es w → Trees es w
trees_of es w u = u.1.0.0.0.0.1.0.0.0.0.0.1.1

selves_of : (es : List Entry) (w : World) → Under_embed es w → Selves es w
selves_of es w u = u.1.0.0.0.1.1

module _ (es : List Entry) (w : World) (d : Done) (s : Shape w) (u : Under_embed es w) (b : AppTakes w d) (live : Lives es) (i : Begins es b.app b.before) where
  first_on : On b.letter b.e.down
  first_on = subst (On b.letter) (sym b.link) (inl refl)

  taken_wrote : messages d.entries (App b.app) ≡ messages (map (did b.app) (app_takes b.before b.letter.said.message).out) (App b.app)
  taken_wrote =
      ap (λ x. messages x.entries (App b.app)) b.is
      ∙ ap (λ n. messages (map (did n) (app_takes b.before b.letter.said.message).out) (App b.app)) (number_at (received w b.conn b.e b.letter).ends b.conn b.app (taken_down b.e) (received_at w b.conn b.e b.letter b.is_here.there) b.whose)

  takes_begin : Begins (es ++ d.entries) b.app (record (app_takes b.before b.letter.said.message) { out = [] })
  takes_begin =
      let x : Below es w = below es w u.1.0.0 in
      begins_taken es w.ends b.app b.before b.letter x.few (selves_of es w u b.conn b.app b.e b.before b.is_here.there b.whose b.role)
      (u.0.0.1 live b.conn b.app b.e b.before b.is_here.there b.whose b.role b.is_here.standing).asked
      (subst (λ p. IsMail es p b.letter) b.whose (subst (AllByRecursion (IsMail es b.e.who)) b.link (x.mail.downs b.conn b.e b.is_here.there b.is_here.standing)).0)
      (subst (λ p. Fits es p b.letter) b.whose (subst (AllByRecursion (Fits es b.e.who)) b.link (x.rightly.downs b.conn b.e b.is_here.there b.is_here.standing)).0)
      (subst (λ p. Excused es w.ends p b.letter) b.whose (u.1.0.1.errors b.conn b.e b.is_here.there b.is_here.standing b.letter first_on)) u.1.1.0.1 (registry_stays es w s u.1.1.1.1.1 live) i d.entries taken_wrote
      (trees_of es w u b.conn b.app b.e b.before b.is_here.there b.whose b.role).empty

begin_grow : Grows Under_embed AllBegin
begin_grow = record {
  begins = first_apps Begins begins_more [] QUOTA_MOST;
  caused = λ es w d s u i e after b.
      apps_kept Begins begins_more es w d s (acting w d e) (λ name is. begins_first es w name (numbers_of es w u))
      (λ x wrote live j. begins_edited es d.entries x.app x.before x.after (ap (λ l. messages l (App x.app)) wrote) (edit_course x.before x.after x.edit x.done (trees_of es w u x.conn x.app x.e x.before x.is_here.there x.whose x.role).empty) j)
      (λ x live j. takes_begin es w d s u x live j) i;
  moved = λ es w v s u i m. subst (λ l. AllBegin l v) (append-nil es) (moved_apps Begins begins_more es w v m i);
  asked = λ es w conn r m question s u i a. asked_apps Begins begins_more es w conn r m question i;
}

pub begin_keep : Keeps (Shaped (And Under_embed AllBegin))
begin_keep = grown Under_embed AllBegin under_keeps begin_grow

-- EMBEDDED
all_embed : (es : List Entry) (w : World) → AllBegin es w → AllEmbed es w
all_embed es w i live k a e s there who role on is_over_ = ((i live k a e s there who role on).embeds is_over_).call

pub embed_keep : Keeps (Shaped (And (And Under_embed AllBegin) AllEmbed))
embed_keep = derived (And Under_embed AllBegin) AllEmbed (λ es w u. all_embed es w u.1) begin_keep
