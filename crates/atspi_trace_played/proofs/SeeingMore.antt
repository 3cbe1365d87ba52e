-- What is seen stays so over what others do; and a reader that starts sees well.
use Rattle.std.proofs.Common.{◌≡◌, inl, inr, ℕ, ◌≤◌, List, [], ◌∷◌, ◌++◌, Option, None, Some, refl, sym, ap, ◌∙◌, subst, arith}
use Rattle.std.specs.Prelude.{◌==◌, ◌&&◌, if◌then◌else◌}
use Rattle.std.specs.List.{AllByRecursion}
use Rattle.std.proofs.lemmas.Bool.{ne_eqb}
use Rattle.std.proofs.lemmas.List.{append-nil, append_assoc}
use Rattle.atspi_script_lines.specs.declared.line.Party.TheVariants.{App, Reader}
use Rattle.atspi_protocol.specs.declared.following.question.Question.TheVariants.{Hello, GetItems}
use Rattle.atspi_protocol.specs.following.ReaderState.{Followed, Pending, begins as begins_reader}
use Rattle.atspi_protocol.specs.following.Takes.{found_in, starts}
use Rattle.atspi_trace.specs.play.Playing.{silent}
use Rattle.atspi_trace.specs.Entry.{Entry, got, gone}
use Rattle.atspi_trace.specs.Ends.{reader_count}
use Rattle.atspi_trace.specs.Causes.{starts_reader, does}
use Rattle.atspi_trace_laws.specs.laws.Words.{message, answers_question, name_in}
use Rattle.atspi_trace_laws.specs.signed.Laws.{IsItsName}
use Rattle.atspi_trace_caches.specs.caches.Caches.{unasked, reads_if, follows_after, follows_on, followed}
use Rattle.atspi_trace_caches.specs.caches.Laws.{CacheIs}
use Rattle.atspi_trace_laws.proofs.OfOrder.Parties.{no_none, same_some}
use Rattle.atspi_trace_laws.proofs.OfOrder.Growing.{Shaped, And}
use Rattle.atspi_trace_laws.proofs.OfHeld.LawHeld.{Below_held, Holds, holds_keep}
use Rattle.atspi_trace_caches.proofs.OfCaches.LawCaches.{caches_follow}
use Rattle.atspi_trace_caches.proofs.OfServed.LawServed.{steps_asked}
use Rattle.atspi_trace_played.proofs.Facts.{NoItems, IsOfApp, IsSeen, IsAwaited}
use Rattle.atspi_trace_played.proofs.Pieces.{Skips, SeesMore, SeesFirst}
use Rattle.atspi_trace_played.proofs.SeeingApps.{found_is, each_weaker}
use Rattle.atspi_trace_played.proofs.SeeingSame.{followed_more}
use Rattle.atspi_trace_played.proofs.SeeingGround.{is_name, one_party, same_number}
use Rattle.atspi_trace_played.proofs.SeeingStep.{name_stays, one_more}

skips_after : (early : List Entry) (r a : ℕ) (f : Followed) (entry : Entry) → Skips r entry → follows_after early r a f entry ≡ f
skips_after early r a f (got (Reader q) (App b) serial) k =
    ap (λ t. if t && b == a then reads_if (answers_question early r (message early (App a) serial)) (message early (App a) serial) f else f) (ne_eqb q r (λ e. k (ap Reader e)))
skips_after early r a f (gone q b) k = ap (λ t. if t && b == a then unasked f.name else f) (ne_eqb q r k)
skips_after early r a f entry k = refl

skips_on : (early : List Entry) (r a : ℕ) (f : Followed) (ys : List Entry) → AllByRecursion (Skips r) ys → follows_on early r a f ys ≡ f
skips_on early r a f [] k = refl
skips_on early r a f (y ∷ ys) k = ap (λ g. follows_on (early ++ y ∷ []) r a g ys) (skips_after early r a f y k.0) ∙ skips_on (early ++ y ∷ []) r a f ys k.1

pub followed_skips : (x : List ℕ) (es ys : List Entry) (r a : ℕ) → AllByRecursion (Skips r) ys → followed x (es ++ ys) r a ≡ followed x es r a
followed_skips x es ys r a k = followed_more x es ys r a ∙ skips_on es r a (followed x es r a) ys k

awaited_more : (es ys : List Entry) (r : ℕ) (x : List ℕ) (apps : List Followed) → IsAwaited es r x apps → IsAwaited (es ++ ys) r x apps
awaited_more es ys r x apps (inl i) = inl i
awaited_more es ys r x apps (inr i) =
    inr (i.0, (i.1.0, name_stays es ys (App i.1.0) x i.1.1, (i.1.2.0, i.1.2.1 ++ ys, ap (λ l. l ++ ys) i.1.2.2 ∙ append_assoc i.1.2.0 (gone r i.1.0 ∷ i.1.2.1) ys)))

-- OVER WHAT OTHERS DO
pub sees_more : SeesMore
sees_more script es ys w v free then_free r s g later skips i = record {
  seen = λ x a its_name. subst (IsSeen (found_in x s.apps)) (sym (followed_skips x es ys r a skips)) (by x a its_name (name_in es (App a)) refl);
  apps = each_weaker (IsOfApp es) (IsOfApp (es ++ ys)) s.apps (one_more es ys) i.apps;
  asking = λ p is x asks. awaited_more es ys r x s.apps (i.asking p is x asks);
  to_come = i.to_come;
  unnamed = λ a none x. ap (λ (z : Followed). z.view) (followed_skips x es ys r a skips) ∙ i.unnamed a (unnamed_before a none (name_in es (App a)) refl) x;
}
  where
    unnamed_before : (a : ℕ) → name_in (es ++ ys) (App a) ≡ None → (o : Option (List ℕ)) → name_in es (App a) ≡ o → name_in es (App a) ≡ None
    unnamed_before a none None e = e
    unnamed_before a none (Some x) e = absurd (no_none x (sym none ∙ name_stays es ys (App a) x e))

    not_known : (x : List ℕ) (a : ℕ) → name_in (es ++ ys) (App a) ≡ Some x → name_in es (App a) ≡ None → (o : Option Followed) → found_in x s.apps ≡ o → IsSeen o (followed x es r a)
    not_known x a its_name none None e = i.unnamed a none x
    not_known x a its_name none (Some f) e =
        let one = found_is (IsOfApp es) x s.apps f e i.apps in
        let then_ : name_in (es ++ ys) (App one.0.app) ≡ Some x = name_stays es ys (App one.0.app) x (one.0.its_name ∙ ap Some one.1) in
        let same : one.0.app ≡ a = same_number one.0.app a
        (one_party script (es ++ ys) v then_free later (App one.0.app) (App a) x (is_name script (es ++ ys) v then_free later (App one.0.app) x then_) (is_name script (es ++ ys) v then_free later (App a) x its_name)) in
        absurd (no_none f.name (sym none ∙ ap (λ z. name_in es (App z)) (sym same) ∙ one.0.its_name))

    by : (x : List ℕ) (a : ℕ) → name_in (es ++ ys) (App a) ≡ Some x → (o : Option (List ℕ)) → name_in es (App a) ≡ o → IsSeen (found_in x s.apps) (followed x es r a)
    by x a its_name (Some y) e = i.seen x a (e ∙ sym (name_stays es ys (App a) y e) ∙ its_name)
    by x a its_name None e = not_known x a its_name e (found_in x s.apps) refl

-- ONE THAT STARTS holds nothing
least : (n : ℕ) → n ≤ n
least n = omega arith

pub sees_first : SeesFirst
sees_first script es w g later = record {
  seen = λ x a its_name. ap (λ (z : Followed). z.view) (followed_skips x es ys r a skips) ∙ nothing a x (its x a its_name);
  apps = tt;
  asking = λ p is x asks. absurd (no_items p x is asks);
  to_come = (tt, (tt, (tt, (tt, (tt, (tt, (tt, (tt, (tt, tt)))))))));
  unnamed = λ a none x. ap (λ (z : Followed). z.view) (followed_skips x es ys r a skips) ∙ nothing a x (none_its x a none);
}
  where
    r : ℕ
    r = reader_count w.ends

    ys : List Entry
    ys = (does w starts_reader).entries

    skips : AllByRecursion (Skips r) ys
    skips = (tt, (tt, tt))

    no_items : (p : Pending) (x : List ℕ) → (silent (starts begins_reader)).pending ≡ Some p → p.question ≡ GetItems x → ⊥
    no_items p x is asks = subst NoItems (ap (λ (z : Pending). z.question) (same_some (record { serial = 1; question = Hello }) p is) ∙ asks) tt

    its : (x : List ℕ) (a : ℕ) → name_in (es ++ ys) (App a) ≡ Some x → IsItsName es a x
    its x a is own at = same_some own x (sym (name_stays es ys (App a) own at) ∙ is)

    none_its : (x : List ℕ) (a : ℕ) → name_in (es ++ ys) (App a) ≡ None → IsItsName es a x
    none_its x a none own at = absurd (no_none own (sym none ∙ name_stays es ys (App a) own at))

    holds : Holds es w
    holds = (g.kept (Shaped (And Below_held Holds)) holds_keep).1.1

    nothing : (a : ℕ) (x : List ℕ) → IsItsName es a x → (followed x es r a).view ≡ None
    nothing a x i =
        subst (λ o. CacheIs es a o (followed x es r a)) (holds.2 r (least r) a)
        (caches_follow script es g.can g.goes g.nothing_owed x r a i (steps_asked script es g.can g.goes x r a) es [] (sym (append-nil es)))
