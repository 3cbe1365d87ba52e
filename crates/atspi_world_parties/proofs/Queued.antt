-- What an end queued, told one thing after another.
use Rattle.std.proofs.Common.{◌≡◌, ℕ, List, [], ◌∷◌, ◌++◌, length, map, take, drop, refl, sym, ap, ◌∙◌, subst, append-nil, append_assoc}
use Rattle.std.specs.Prelude.{Option, None, Some, MatchOption}
use Rattle.std.specs.List.{AllByRecursion}
use Rattle.atspi_protocol.specs.exporting.Exporter.{Happening, Exporter}
use Rattle.atspi_protocol.specs.following.ReaderState.{ReaderState}
use Rattle.atspi_trace_events.specs.declared.event.Event.{Event}
use Rattle.atspi_world_links.specs.declared.post.Post.{Post}
use Rattle.atspi_trace.specs.Entry.{entries_of}
use Rattle.atspi_trace.specs.Causes.{did}
use Rattle.atspi_world_parties.specs.Doing.{said_on, all_said, quiet, CanBeWritten, IsTold, TellsAt, TellsReaderAt}

-- an application that queued nothing told all
pub told_none : (s t : Exporter) (number : ℕ) (p : Post) (trace : List Event) → s.out ≡ [] → t.out ≡ s.out → t ≡ record s { out = t.out } → IsTold s t number p p trace trace
told_none s t number p trace none same rest = record {
  app = rest ∙ ap (λ o. record s { out = o }) (same ∙ none);
  post = ap (λ o. all_said o p) (sym none);
  wrote = sym (append-nil (entries_of trace)) ∙ ap (λ o. entries_of trace ++ map (did number) o) (sym none);
  written_ = subst (AllByRecursion CanBeWritten) (sym none) tt;
}

-- one thing, and then the rest
pub told_more : (s t after : Exporter) (h : Happening) (number : ℕ) (p p' q : Post) (old mid new : List Event) → s.out ≡ h ∷ t.out → t ≡ record s { out = t.out } → p' ≡ said_on h p
    → entries_of mid ≡ entries_of old ++ did number h ∷ [] → CanBeWritten h → IsTold t after number p' q mid new → IsTold s after number p q old new
told_more s t after h number p p' q old mid new front rest put wrote can told = record {
  app = told.app ∙ ap quiet rest;
  post = told.post ∙ ap (all_said t.out) put ∙ ap (λ o. all_said o p) (sym front);
  wrote = told.wrote ∙ ap (λ l. l ++ map (did number) t.out) wrote ∙ append_assoc (entries_of old) (did number h ∷ []) (map (did number) t.out)
      ∙ ap (λ o. entries_of old ++ map (did number) o) (sym front);
  written_ = subst (AllByRecursion CanBeWritten) (sym front) (can, told.written_);
}

-- nothing was handed out
pub none_given : {X : Type 0} (r : Option X) (P : Type 0) (Q : X → Type 0) → ((x : X) → r ≡ Some x → ⊥) → MatchOption r P Q → P
none_given None P Q differs h = h
none_given (Some x) P Q differs h = absurd (differs x refl)

-- what is written back through a slice of a whole list is the list
whole_front : {X : Type 0} (xs ys : List X) → take (length xs) (xs ++ ys) ≡ xs
whole_front [] ys = refl
whole_front (x ∷ xs) ys = ap (λ l. x ∷ l) (whole_front xs ys)

pub written_back : {X : Type 0} (n : ℕ) (xs ys : List X) → length xs ≡ n → take n (xs ++ drop (length xs) ys) ≡ xs
written_back n xs ys h = ap (λ k. take k (xs ++ drop (length xs) ys)) (sym h) ∙ whole_front xs (drop (length xs) ys)

pub tells_as : (b b' d d' : List Exporter) (p p' q q' : List Post) (a conn : ℕ) (old new : List Event) → b ≡ b' → d ≡ d' → p ≡ p' → q ≡ q' → TellsAt b d a conn p q old new → TellsAt b' d' a conn p' q' old new
tells_as b b' d d' p p' q q' a conn old new eb ed ep eq t =
    subst (λ x. TellsAt x d' a conn p' q' old new) eb (subst (λ x. TellsAt b x a conn p' q' old new) ed (subst (λ x. TellsAt b d a conn x q' old new) ep (subst (λ x. TellsAt b d a conn p x old new) eq t)))

pub tells_reader_as : (b b' d d' : List ReaderState) (p p' q q' : List Post) (r conn : ℕ) (old new : List Event) → b ≡ b' → d ≡ d' → p ≡ p' → q ≡ q' → TellsReaderAt b d r conn p q old new
    → TellsReaderAt b' d' r conn p' q' old new
tells_reader_as b b' d d' p p' q q' r conn old new eb ed ep eq t =
    subst (λ x. TellsReaderAt x d' r conn p' q' old new) eb
    (subst (λ x. TellsReaderAt b x r conn p' q' old new) ed (subst (λ x. TellsReaderAt b d r conn x q' old new) ep (subst (λ x. TellsReaderAt b d r conn p x old new) eq t)))
