-- A reader takes a letter: what its own state then has of each application is what the trace then says.
use Rattle.std.proofs.Common.{◌≡◌, ◌⊎◌, inl, inr, ℕ, suc, List, ◌++◌, Option, None, Some, refl, sym, ap, ◌∙◌, subst}
use Rattle.std.specs.Prelude.{◌==◌, not, filter, fold, option_map}
use Rattle.std.specs.List.{AllByRecursion}
use Rattle.std.proofs.lemmas.Bool.{eq-eqb}
use Rattle.std.proofs.lemmas.List.{append-nil}
use Rattle.atspi_tree_model.specs.declared.news.Reference.{Reference}
use Rattle.atspi_script_lines.specs.declared.line.Line.{Line}
use Rattle.atspi_script_lines.specs.declared.line.Party.{Party}
use Rattle.atspi_script_lines.specs.declared.line.Party.TheVariants.{Registry, App}
use Rattle.atspi_message.specs.Envelope.{Envelope}
use Rattle.atspi_names.specs.Owners.{unique_name}
use Rattle.atspi_protocol.specs.declared.news.part.PartName.{PartName}
use Rattle.atspi_protocol.specs.declared.following.question.Question.{Question}
use Rattle.atspi_protocol.specs.declared.following.question.Question.TheVariants.{GetChildren, GetPart}
use Rattle.atspi_protocol.specs.news.NewsOf.{news_of, or_empty}
use Rattle.atspi_protocol.specs.news.Replies.{elements_of}
use Rattle.atspi_protocol.specs.following.ReaderState.{Followed, ReaderState, is_named, begins}
use Rattle.atspi_protocol.specs.following.Known.{unasked, made_known, references_among, new_child, with_child, takes_child, told_end, with_end, takes_end}
use Rattle.atspi_protocol.specs.following.Replied.{changed, loaded, told_part, refused_part, takes_reply}
use Rattle.atspi_protocol.specs.following.Takes.{noted, notes, folded, takes_news}
use Rattle.atspi_trace.specs.Entry.{Entry}
use Rattle.atspi_trace.specs.World.{Hearer, Letter, World}
use Rattle.atspi_trace.specs.Ends.{same_party}
use Rattle.atspi_trace.specs.Hearing.{question_returned}
use Rattle.atspi_trace_laws.specs.laws.Words.{name_in}
use Rattle.atspi_trace_laws.proofs.OfOrder.Parties.{no_none, false_true}
use Rattle.atspi_trace_laws.proofs.OfHeard.Quiet.{heard_all}
use Rattle.atspi_trace_laws.proofs.OfLinks.LawLinks.{NotTaken}
use Rattle.atspi_trace_laws.proofs.OfNames.Places.{first_at, greeted, greeted_more, none_greeted, told_is}
use Rattle.atspi_trace_laws.proofs.OfSigned.Mail.{told_more}
use Rattle.atspi_trace_played.proofs.Facts.{IsOfApp}
use Rattle.atspi_trace_played.proofs.SeeingApps.{each_changed, each_kept, each_made, each_fold, each_weaker}
use Rattle.atspi_trace_played.proofs.SeeingSame.{told_is as part_is, folded_is}
use Rattle.atspi_trace_played.proofs.SeeingReplies as replies
use Rattle.atspi_trace_played.proofs.SeeingReplies.{Brings, items, told, refuses, fails, children, Replied, replied_to}
use Rattle.atspi_trace_played.proofs.SeeingChildren.{took, Taking, children_fit, child_fits, child_from, child_is_signal}

-- AN APPLICATION STAYS ONE
pub stays_one : (es : List Entry) (g k : Followed) → k.name ≡ g.name → k.root ≡ g.root → IsOfApp es g → IsOfApp es k
stays_one es g k name root i = record { app = i.app; its_name = i.its_name ∙ ap Some (sym name); root = root ∙ i.root }

pub name_stays : (es ys : List Entry) (p : Party) (x : List ℕ) → name_in es p ≡ Some x → name_in (es ++ ys) p ≡ Some x
name_stays es ys p x h = told_is (es ++ ys) p ∙ told_more es ys p x (sym (told_is es p) ∙ h)

pub one_more : (es ys : List Entry) (g : Followed) → IsOfApp es g → IsOfApp (es ++ ys) g
one_more es ys g i = record { app = i.app; its_name = name_stays es ys (App i.app) g.name i.its_name; root = i.root }

pub name_was : (es ys : List Entry) (p : Party) → AllByRecursion NotTaken ys → name_in (es ++ ys) p ≡ name_in es p
name_was es ys p a =
    told_is (es ++ ys) p ∙ ap (λ l. option_map (λ n. unique_name (suc n)) (first_at (same_party p) l))
    (greeted_more es ys ∙ ap (λ l. greeted es ++ l) (none_greeted ys a) ∙ append-nil (greeted es)) ∙ sym (told_is es p)

module _ (script : List Line) (es : List Entry) (w : World) (r : ℕ) (h : Hearer) (letter : Letter) (s : ReaderState) (t : Taking script es w r h letter s) where
  abbrev pub m : Envelope
  m = letter.said.message

  abbrev pub later : List Entry
  later = es ++ took r h w.ends letter

  abbrev pub q : Option Question
  q = question_returned m h.asked

  abbrev pub noted_all : ReaderState
  noted_all = notes s m

  abbrev pub replied_all : ReaderState
  replied_all = takes_reply noted_all m

  abbrev pub ended_all : ReaderState
  ended_all = takes_end replied_all m

  abbrev pub known_all : ReaderState
  known_all = takes_child ended_all m

  abbrev pub read_all : ReaderState
  read_all = takes_news known_all m

  pub reply : Replied m h s
  reply = replied_to w m h s t.replies t.asks.waiting

  nobody_greeted : AllByRecursion NotTaken (took r h w.ends letter)
  nobody_greeted = (tt, heard_all NotTaken (λ k app line. tt) (λ k app. tt) r h w.ends letter)

  pub name_before : (p : Party) → name_in later p ≡ name_in es p
  name_before p = name_was es (took r h w.ends letter) p nobody_greeted

  -- EACH THAT IT KNOWS is an application
  abbrev Ones : List Followed → Type 0
  Ones l = AllByRecursion (IsOfApp later) l

  ones_noted : Ones noted_all.apps
  ones_noted =
      each_changed (IsOfApp later) (noted m.serial) (or_empty m.sender) s.apps (λ g i. stays_one later g (noted m.serial g) refl refl i)
      (each_weaker (IsOfApp es) (IsOfApp later) s.apps (one_more es (took r h w.ends letter)) t.sees.apps)

  pub ones_replied : Ones replied_all.apps
  ones_replied = by reply.brings
    where
      to : (l : List Followed) → replied_all.apps ≡ l → Ones l → Ones replied_all.apps
      to l is a = subst Ones (sym is) a

      by : Brings m s.pending s.registry noted_all.apps q replied_all → Ones replied_all.apps
      by (replies.same plain is reg) = to noted_all.apps is ones_noted
      by (items p name all is asks qs two not_bus may tells is_apps reg) =
          to (changed (loaded all) name noted_all.apps) is_apps (each_changed (IsOfApp later) (loaded all) name noted_all.apps (λ g i. stays_one later g (loaded all g) refl refl i) ones_noted)
      by (told name path which news qs two not_bus may tells is_apps reg) =
          to (changed (told_part news) name noted_all.apps) is_apps
          (each_changed (IsOfApp later) (told_part news) name noted_all.apps (λ g i. stays_one later g (told_part news g) (part_is news g).name (part_is news g).root i) ones_noted)
      by (refuses name path which qs not_bus may tells no_four is_apps reg) =
          to (changed (refused_part path which) name noted_all.apps) is_apps
          (each_changed (IsOfApp later) (refused_part path which) name noted_all.apps (λ g i. stays_one later g (refused_part path which g) refl refl i) ones_noted)
      by (fails p name is asks qs no_four is_apps reg) =
          to (filter (λ app. not (is_named name app)) noted_all.apps) is_apps (each_kept (IsOfApp later) (λ app. not (is_named name app)) noted_all.apps ones_noted)
      by (children qs two is_apps reg) =
          to (fold made_known noted_all.apps (references_among (elements_of m.body))) is_apps
          (each_fold (IsOfApp later) noted_all.apps (references_among (elements_of m.body)) (children_fit script es w r h letter s t qs) ones_noted)

  pub ones_ended : Ones ended_all.apps
  ones_ended = by (told_end m)
    where
      by : (o : Option (List ℕ)) → Ones (with_end replied_all o).apps
      by None = ones_replied
      by (Some n) = each_kept (IsOfApp later) (λ app. not (is_named n app)) replied_all.apps ones_replied

  ended_registry : (o : Option (List ℕ)) → (with_end replied_all o).registry ≡ replied_all.registry
  ended_registry None = refl
  ended_registry (Some n) = refl

  -- a child that was added is told by the registry that it knew before
  pub a_child : (root : Reference) → new_child ended_all m ≡ Some root → IsOfApp later (unasked root) × (letter.from ≡ Registry)
  a_child root k = by reply.brings
    where
      four : m.kind ≡ 4
      four = child_is_signal script es w r h letter s t ended_all.registry root k

      two_four : (n : ℕ) → n ≡ 2 → n ≡ 4 → ⊥
      two_four n a b = false_true (ap (λ z. z == 4) (sym a) ∙ eq-eqb n 4 b)

      known : replied_all.registry ≡ s.registry → new_child (record begins { registry = h.registry }) m ≡ Some root
      known reg = ap (λ o. new_child (record begins { registry = o }) m) (sym (ended_registry (told_end m) ∙ reg ∙ t.asks.registry)) ∙ k

      fits : replied_all.registry ≡ s.registry → (q ≡ Some GetChildren → ⊥) → IsOfApp later (unasked root) × (letter.from ≡ Registry)
      fits reg ne = (child_fits script es w r h letter s t root ne (known reg), child_from script es w r h letter s t root (known reg))

      other : (p : Option Question) → replies.IsPlain p → p ≡ Some GetChildren → ⊥
      other p plain is = subst replies.IsPlain is plain

      no_children : {X : Type 0} → m.kind ≡ 2 → X
      no_children two = absurd (two_four m.kind two four)

      not_refused : (name path : List ℕ) (which : PartName)
          → (q ≡ None) ⊎ (q ≡ Some (GetPart name path which)) → q ≡ Some GetChildren → ⊥
      not_refused name path which (inl none) is = no_none GetChildren (sym none ∙ is)
      not_refused name path which (inr some) is = other_question (sym some ∙ is)
        where
          is_part : Option Question → Type 0
          is_part (Some (GetPart a b c)) = Unit {0}
          is_part p = ⊥

          other_question : Some (GetPart name path which) ≡ Some GetChildren → ⊥
          other_question e = subst is_part e tt

      by : Brings m s.pending s.registry noted_all.apps q replied_all → IsOfApp later (unasked root) × (letter.from ≡ Registry)
      by (replies.same plain is reg) = fits reg (other q plain)
      by (items p name all is asks qs two not_bus may tells is_apps reg) = no_children two
      by (told name path which news qs two not_bus may tells is_apps reg) = no_children two
      by (refuses name path which qs not_bus may tells no_four is_apps reg) = fits reg (not_refused name path which qs)
      by (fails p name is asks qs no_four is_apps reg) = fits reg (λ e. no_none GetChildren (sym qs ∙ e))
      by (children qs two is_apps reg) = no_children two

  pub ones_known : Ones known_all.apps
  ones_known = by (new_child ended_all m) refl
    where
      by : (o : Option Reference) → new_child ended_all m ≡ o → Ones (with_child ended_all o).apps
      by None is = ones_ended
      by (Some root) is = each_made (IsOfApp later) ended_all.apps root (a_child root is).0 ones_ended

  pub ones_read : Ones read_all.apps
  ones_read =
      each_changed (IsOfApp later) (folded (news_of (or_empty m.sender) m)) (or_empty m.sender) known_all.apps
      (λ g i. stays_one later g (folded (news_of (or_empty m.sender) m) g) (folded_is (news_of (or_empty m.sender) m) g).name (folded_is (news_of (or_empty m.sender) m) g).root i) ones_known
