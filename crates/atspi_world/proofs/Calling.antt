-- A message that an end sends, on its link and in the trace.
use Rattle.std.proofs.Common.{◌≡◌, ℕ, suc, ◌+◌, ◌<◌, ◌≤◌, Bool, true, false, List, [], ◌∷◌, ◌++◌, length, map, set, Some, refl, sym, ap, ◌∙◌, subst, append-nil, arith}
use Rattle.std.specs.Prelude.{Result, Ok, Err, ◌&&◌, filter, codes, slice_get, if◌then◌else◌}
use Rattle.std.specs.List.{list_any}
use Rattle.std.proofs.lemmas.Option.{slice_get_within}
use Rattle.atspi_script_lines.specs.declared.deed.Deed.{Deed}
use Rattle.atspi_script_lines.specs.declared.deed.Deed.TheVariants.{SetCaret, InsertText, DeleteText, SetText, SelectChild, DeselectChild, SelectAll, ClearSelection, DoAction}
use Rattle.atspi_script_lines.specs.declared.line.Party.TheVariants.{Reader}
use Rattle.atspi_message.specs.Envelope.{Envelope}
use Rattle.atspi_message.specs.Bytes.{written}
use Rattle.atspi_protocol.specs.ends.Messages.{call_to}
use Rattle.atspi_protocol.specs.ends.Places.{bus, bus_path}
use Rattle.atspi_protocol.specs.exporting.Starting.{name_or_empty}
use Rattle.atspi_protocol.specs.following.ReaderState.{sends, ReaderState}
use Rattle.atspi_protocol.specs.following.Calls.{user_call}
use Rattle.atspi_protocol.specs.following.Takes.{reader_calls}
use Rattle.atspi_match.specs.declared.routing.member.BusMember.{BusMember}
use Rattle.atspi_match.specs.declared.routing.member.BusMember.TheVariants.{Hello, RequestName, ReleaseName, NameHasOwner, GetNameOwner, ListNames, ListQueuedOwners, AddMatch, RemoveMatch, GetId, Ping}
use Rattle.atspi_match.specs.routing.Members.{member_lines, is_of, is_text, first_line, with_arguments, member_of}
use Rattle.atspi_match.specs.routing.Queues.{Bus}
use Rattle.atspi_bus_steps.specs.Spoken.{IsRuleOf, IsRuleNamed}
use Rattle.atspi_world_links.specs.declared.post.Post.{Post}
use Rattle.atspi_trace.specs.Entry.{entries_of, sent}
use Rattle.atspi_trace.specs.Rules.{rule_in}
use Rattle.atspi_trace.specs.World.{Role, a_reader, Hearer, Said, End, World}
use Rattle.atspi_trace.specs.Ends.{plain, put_up, number_of, party_at, whose, conn_of, end_at, end_if}
use Rattle.atspi_trace.specs.Causes.{at_end, on_end, called, calls, does}
use Rattle.atspi_trace.specs.Work.{name_of}
use Rattle.atspi_world_links.specs.Changes.{changed_at}
use Rattle.atspi_world_moves.specs.Carried.{bytes_up, post_of, IsSendable, AreSendable, HasMark, IsCarried}
use Rattle.atspi_world_links.proofs.Changes.{length-changed, map-changed}
use Rattle.atspi_world_moves.proofs.Downs.{wait_same}
use Rattle.atspi_world_moves.proofs.Ties.{post_below}
use Rattle.atspi_world_moves.proofs.Views.{with-changed, all_with, within_more}
use Rattle.atspi_world_moves.specs.Linked.{IsLinked}
use Rattle.atspi_world_moves.proofs.Linked.{linked_same}
use Rattle.atspi_trace.specs.play.Playing.{Playing, silent}
use Rattle.atspi_trace.specs.play.Plays as play
use Rattle.atspi_trace.specs.play.Plays.{plays, with_reader}
use Rattle.atspi_world_parties.specs.Doing.{sent_on, IsToldAll, TellsReaderAt, CallsAt}
use Rattle.atspi_world.specs.Worlds.{Staged, IsWorld, IsPlaying, Happens}
use Rattle.atspi_world.proofs.AskingReaders.{calls_left}
use Rattle.atspi_world.proofs.Conns.{conn_end, conn_who}
use Rattle.atspi_world.proofs.Plays.{get_set}
use Rattle.atspi_world.proofs.Sayings.{up-append, set_set}
use Rattle.atspi_world.proofs.Segments.{with_reader_is}
use Rattle.atspi_world.proofs.Signals.{all-append}
use Rattle.atspi_world.proofs.Stays.{Beside, reader_world}

-- Hello speaks of no rule
abbrev hello : ℕ → Envelope
hello n = record (call_to bus bus_path bus (codes "Hello") []) { serial = n }

not_adding : ◌≡◌ {A = Result BusMember (List ℕ)} (Ok Hello) (Ok AddMatch) → ⊥
not_adding h = cc

not_removing : ◌≡◌ {A = Result BusMember (List ℕ)} (Ok Hello) (Ok RemoveMatch) → ⊥
not_removing h = cc

hello_rule : (n : ℕ) → IsRuleOf (hello n) (rule_in (hello n))
hello_rule n AddMatch is = absurd (not_adding is)
hello_rule n RemoveMatch is = absurd (not_removing is)
hello_rule n Hello is = tt
hello_rule n RequestName is = tt
hello_rule n ReleaseName is = tt
hello_rule n NameHasOwner is = tt
hello_rule n GetNameOwner is = tt
hello_rule n ListNames is = tt
hello_rule n ListQueuedOwners is = tt
hello_rule n GetId is = tt
hello_rule n Ping is = tt

pub hello_reads : (n : ℕ) → IsRuleNamed (record (call_to bus bus_path bus (codes "Hello") []) { serial = n }) (rule_in (record (call_to bus bus_path bus (codes "Hello") []) { serial = n }))
hello_reads n = λ asked one. hello_rule n

-- nor does a call of an interface that the bus does not have
no_member : (e : Envelope) (member : BusMember) → list_any (is_of e.interface) member_lines ≡ false → member_of e ≡ Ok member → ⊥
no_member e member none is = by (list_any (is_of e.interface) member_lines) none is
  where
    by : (b : Bool) → b ≡ false
        → (if b then with_arguments e (first_line (filter (λ l. is_of e.interface l && is_text e.member l.name) member_lines)) else Err (codes "UnknownInterface")) ≡ Ok member → ⊥
    by true n i = let clash : true ≡ false = n in cc
    by false n i = cc

pub deed_reads : (n : ℕ) (name : List ℕ) (node : ℕ) (deed : Deed) → IsRuleNamed (user_call n name node deed) (rule_in (user_call n name node deed))
deed_reads n name node deed = λ asked one member is. absurd (no_member (user_call n name node deed) member (by deed) is)
  where
    by : (d : Deed) → list_any (is_of (user_call n name node d).interface) member_lines ≡ false
    by (SetCaret at) = refl
    by (InsertText at text) = refl
    by (DeleteText from to) = refl
    by (SetText text) = refl
    by (SelectChild index) = refl
    by (DeselectChild index) = refl
    by SelectAll = refl
    by ClearSelection = refl
    by (DoAction index) = refl

-- an end that sends one message and may change its role
abbrev pub sends_one : Envelope → Role → End → End
sends_one m role e = put_up (plain m ∷ []) (record e { role = role })

pub put_is : (m : Envelope) (role : Role) (e : End) → post_of (sends_one m role e) ≡ sent_on m (post_of e)
put_is m role e = ap (λ l. record (post_of e) { up = l }) (up-append e.up (plain m ∷ []) ∙ ap (λ l. bytes_up e.up ++ l) (append-nil (written m)))

pub one_sent : (w : World) (conn : ℕ) (role : Role) (m : Envelope) (b b' : Bus) (posts posts' : List Post) → IsCarried w b posts → IsSendable m → b' ≡ b → posts' ≡ changed_at conn (sent_on m) posts
    → IsCarried (at_end w conn (sends_one m role)) b' posts'
one_sent w conn role m b b' posts posts' is sendable same changed =
    record {
      bus_is = same ∙ is.bus_is;
      own_told = is.own_told;
      closings_told = is.closings_told;
      posts_are = changed ∙ ap (changed_at conn (sent_on m)) is.posts_are ∙ sym (map-changed post_of (sends_one m role) (sent_on m) (put_is m role) w.ends conn)
          ∙ ap (map post_of) (sym (with-changed (sends_one m role) w.ends conn));
      few = subst (λ n. n ≤ 4294967296) (sym (ap length changed ∙ length-changed (sent_on m) posts conn)) is.few;
      sendable = all_with AreSendable (sends_one m role) (λ y h. all-append (λ (said : Said). IsSendable said.message) y.up (plain m ∷ []) h (sendable, tt)) conn w.ends is.sendable;
      marked = all_with HasMark (sends_one m role) (λ y h. within_more y.up_moved y.up (plain m ∷ []) h) conn w.ends is.marked;
      waits = wait_same (sends_one m role) (λ y. refl) (λ y. refl) w.bus.waiting.queues w.ends conn is.waits;
    }

-- a reader makes a call of its user, and that is told
pub call_world : (p : Playing) (conn r : ℕ) (y : End) (post : Post) (node : ℕ) (deed : Deed) (old new : Staged) (readers : List ReaderState) → IsPlaying p old → conn_of p.world.ends (Reader r) ≡ Some conn
    → post ≡ post_of y → CallsAt old.readers readers r post.name node deed → TellsReaderAt readers new.readers r conn old.posts new.posts old.trace new.trace
    → new.bus ≡ old.bus → new.given ≡ old.given → new.apps ≡ old.apps → Beside old new → Happens (plays p (calls conn (name_of (Some y)) node deed)) old new
call_world p conn r y post node deed old new readers playing there p_is calls_ tells bus_same given apps beside =
    let w : World = p.world in
    let is : IsWorld w old = playing.is in
    let found = conn_end w.ends (Reader r) conn there in
    let e : End = found.0 in
    let at : end_at w.ends conn ≡ Some e = found.1 in
    let acts = is.readers_play r e (ap (end_if w.ends) there ∙ at) in
    let s : ReaderState = acts.player in
    let h : Hearer = acts.plays.hearer in
    let k = calls_ s acts.there in
    let nm : List ℕ = name_of (Some y) in
    let name_is : k.name ≡ nm = sym (ap name_or_empty (sym (ap (λ (q : Post). q.name) p_is) ∙ k.named)) in
    let m : Envelope = user_call h.next nm node deed in
    let m_is : user_call s.next k.name node deed ≡ m = ap (λ n. user_call n k.name node deed) acts.plays.next ∙ ap (λ n. user_call h.next n node deed) name_is in
    let t : ReaderState = reader_calls s k.name node deed in
    let out_is : t.out ≡ sends m ∷ [] = ap (λ l. l ++ sends (user_call s.next k.name node deed) ∷ []) acts.plays.quiet ∙ ap (λ x. sends x ∷ []) m_is in
    let few : r < length old.readers = slice_get_within old.readers r s acts.there in
    let put : slice_get readers r ≡ Some t = ap (λ l. slice_get l r) k.readers ∙ get_set old.readers r t few in
    let told = tells t put in
    let all : IsToldAll r t.out conn old.posts new.posts old.trace new.trace = told.tells (post_below w old.bus old.posts conn e is.carried at) in
    let one : IsToldAll r (sends m ∷ []) conn old.posts new.posts old.trace new.trace = subst (λ l. IsToldAll r l conn old.posts new.posts old.trace new.trace) out_is all in
    let role : Role = a_reader (record h { next = suc h.next }) in
    let carried : IsCarried (at_end w conn (sends_one m role)) new.bus new.posts =
    one_sent w conn role m old.bus new.bus old.posts new.posts is.carried (record { is = one.written_.0; reads = deed_reads h.next nm node deed }) bus_same one.posts_are in
    let next_is : s.next + 1 ≡ suc h.next = ap (λ n. n + 1) acts.plays.next ∙ (let more : h.next + 1 ≡ suc h.next = omega arith in more) in
    let v : World = at_end w conn (sends_one m role) in
    let linked : IsLinked v new.given = subst (IsLinked v) (sym given) (linked_same w conn (sends_one m role) old.given (λ z. (refl, refl, refl, refl, refl)) is.linked) in
    let became : new.readers ≡ set old.readers r (silent t) = told.readers ∙ ap (λ l. set l r (silent t)) k.readers ∙ set_set old.readers r t (silent t) in
    let after_ : IsWorld v new =
    reader_world w v conn r e (sends_one m role) (silent t) old new (record { ends = refl; swaps = refl; who = λ z. refl })
    (record { hearer = record h { next = suc h.next }; role_is = refl; next = next_is; quiet = refl; left = calls_left s k.name node deed acts.plays.left }) is there at carried linked few
    became apps beside in
    let does_is : does w (calls conn nm node deed) ≡ record { world = at_end w conn (sends_one m role); entries = sent (party_at w.ends conn) m ∷ [] } =
    ap (λ o. on_end w o (λ x. called w conn nm node deed x.role)) at ∙ ap (called w conn nm node deed) acts.plays.role_is in
    let party : Reader r ≡ party_at w.ends conn = sym (conn_who w.ends (Reader r) conn e there at) ∙ ap whose (sym at) in
    let change : ReaderState → ReaderState = λ z. silent (reader_calls z nm node deed) in
    let mine : slice_get p.readers r ≡ Some s = ap (λ l. slice_get l r) (sym playing.readers) ∙ acts.there in
    let readers_are : new.readers ≡ with_reader (number_of (party_at w.ends conn)) change p.readers =
    became ∙ ap (λ n. set old.readers r (silent (reader_calls s n node deed))) name_is ∙ ap (λ l. set l r (change s)) playing.readers ∙ sym (with_reader_is r change p.readers s mine)
    ∙ ap (λ q. with_reader (number_of q) change p.readers) party in
    subst (λ x. Happens (play.called p conn nm node deed x) old new) (sym does_is)
    (record { is = record { is = after_; readers = readers_are }; wrote = one.wrote ∙ ap (λ q. entries_of old.trace ++ sent q m ∷ []) party })
