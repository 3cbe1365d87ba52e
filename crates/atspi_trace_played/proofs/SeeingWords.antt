-- What is done, one thing after another: lines that are spoken, and no calls.
use Rattle.std.proofs.Common.{◌≡◌, ℕ, Bool, true, false, List, [], ◌∷◌, ◌++◌, map, Option, None, Some, refl, sym, ap, ap₂, ◌∙◌, subst}
use Rattle.std.specs.Prelude.{◌==◌, ◌&&◌, flat_map, not, if◌then◌else◌}
use Rattle.std.specs.List.{AllByRecursion}
use Rattle.std.proofs.lemmas.List.{append_assoc}
use Rattle.atspi_tree_model.specs.declared.news.News.{News}
use Rattle.atspi_tree_model.specs.declared.news.News.TheVariants.{Nothing}
use Rattle.atspi_tree_model.specs.declared.view.Row.{Row}
use Rattle.atspi_tree_model.specs.Forest.{Forest}
use Rattle.atspi_speech.specs.Speech.{lines as read_lines, closing_lines}
use Rattle.atspi_message.specs.Envelope.{Envelope}
use Rattle.atspi_protocol.specs.news.NewsOf.{news_of}
use Rattle.atspi_protocol.specs.following.ReaderState.{Done, sends, speaks, tells_end, Followed}
use Rattle.atspi_protocol.specs.following.Known.{closing_of, closings, end_of_connection}
use Rattle.atspi_protocol.specs.following.Takes.{lines_at}
use Rattle.atspi_trace.specs.Entry.{Entry, spoke}
use Rattle.atspi_trace.specs.World.{End}
use Rattle.atspi_trace.specs.Ends.{app_named}
use Rattle.atspi_base.specs.valid_names.Names.{is_bus_name, is_unique_name}
use Rattle.atspi_trace.specs.play.Plays.{of_app, told as told_to}
use Rattle.atspi_trace_played.proofs.Pieces.{IsNoCall, spoken}

-- LISTS of what is done
pub told_both : (f : Done → List Entry) (xs ys : List Done) → flat_map f (xs ++ ys) ≡ flat_map f xs ++ flat_map f ys
told_both f [] ys = refl
told_both f (x ∷ xs) ys = ap (λ l. f x ++ l) (told_both f xs ys) ∙ sym (append_assoc (f x) (flat_map f xs) (flat_map f ys))

pub told_lines : (r b : ℕ) (ends : List End) (x : List ℕ) (ls : List (List ℕ)) → app_named x ends ≡ Some b → flat_map (told_to r ends) (map (λ (line : List ℕ). speaks x line) ls) ≡ map (spoke r b) ls
told_lines r b ends x [] h = refl
told_lines r b ends x (l ∷ ls) h = ap₂ (λ o k. of_app o (λ app. spoke r app l) ++ k) h (told_lines r b ends x ls h)

pub lines_no_call : (x : List ℕ) (ls : List (List ℕ)) → AllByRecursion IsNoCall (map (λ (line : List ℕ). speaks x line) ls)
lines_no_call x [] = tt
lines_no_call x (l ∷ ls) = (refl, lines_no_call x ls)

pub no_calls : (xs ys : List Done) → AllByRecursion IsNoCall xs → AllByRecursion IsNoCall ys → AllByRecursion IsNoCall (xs ++ ys)
no_calls [] ys a b = b
no_calls (x ∷ xs) ys a b = (a.0, no_calls xs ys a.1 b)

pub spoken_all : (xs : List Done) → AllByRecursion IsNoCall xs → spoken xs ≡ xs
spoken_all [] a = refl
spoken_all (x ∷ xs) a = ap (λ t. if not t then x ∷ spoken xs else spoken xs) a.0 ∙ ap (λ l. x ∷ l) (spoken_all xs a.1)

pub spoken_last : (xs : List Done) (e : Envelope) → AllByRecursion IsNoCall xs → spoken (xs ++ sends e ∷ []) ≡ xs
spoken_last [] e a = refl
spoken_last (x ∷ xs) e a = ap (λ t. if not t then x ∷ spoken (xs ++ sends e ∷ []) else spoken (xs ++ sends e ∷ [])) a.0 ∙ ap (λ l. x ∷ l) (spoken_last xs e a.1)

-- WHAT IS READ of one
pub lines_none : (news : News) (g : Followed) → g.view ≡ None → lines_at news g ≡ []
lines_none news g h = rw h refl

pub lines_some : (news : News) (g : Followed) (v : Forest Row) → g.view ≡ Some v → lines_at news g ≡ map (λ (line : List ℕ). speaks g.name line) (read_lines g.root g.name v news)
lines_some news g v h = rw h refl

pub lines_nothing : (g : Followed) → lines_at Nothing g ≡ []
lines_nothing g = by g.view refl
  where
    by : (o : Option (Forest Row)) → g.view ≡ o → lines_at Nothing g ≡ []
    by None h = lines_none Nothing g h
    by (Some v) h = lines_some Nothing g v h

pub lines_said : (news : News) (g : Followed) → AllByRecursion IsNoCall (lines_at news g)
lines_said news g = by g.view refl
  where
    by : (o : Option (Forest Row)) → g.view ≡ o → AllByRecursion IsNoCall (lines_at news g)
    by None h = subst (AllByRecursion IsNoCall) (sym (lines_none news g h)) tt
    by (Some v) h = subst (AllByRecursion IsNoCall) (sym (lines_some news g v h)) (lines_no_call g.name (read_lines g.root g.name v news))

pub all_lines : (news : News) (l : List Followed) → AllByRecursion IsNoCall (flat_map (lines_at news) l)
all_lines news [] = tt
all_lines news (g ∷ gs) = no_calls (lines_at news g) (flat_map (lines_at news) gs) (lines_said news g) (all_lines news gs)

pub closing_none : (g : Followed) → g.view ≡ None → closing_of g ≡ []
closing_none g h = rw h refl

pub closing_some : (g : Followed) (v : Forest Row) → g.view ≡ Some v → closing_of g ≡ map (λ (line : List ℕ). speaks g.name line) (closing_lines v)
closing_some g v h = rw h refl

pub all_closings : (l : List Followed) → AllByRecursion IsNoCall (closings l)
all_closings [] = tt
all_closings (g ∷ gs) = no_calls (closing_of g) (closings gs) (by g.view refl) (all_closings gs)
  where
    by : (o : Option (Forest Row)) → g.view ≡ o → AllByRecursion IsNoCall (closing_of g)
    by None h = subst (AllByRecursion IsNoCall) (sym (closing_none g h)) tt
    by (Some v) h = subst (AllByRecursion IsNoCall) (sym (closing_some g v h)) (lines_no_call g.name (closing_lines v))

pub an_end_said : (k : List ℕ) → AllByRecursion IsNoCall (end_of_connection k)
an_end_said k = by (is_bus_name k && is_unique_name k)
  where
    by : (t : Bool) → AllByRecursion IsNoCall (if t then tells_end k ∷ [] else [])
    by true = (refl, tt)
    by false = tt

pub no_news : (x : List ℕ) (e : Envelope) → (e.kind == 4) ≡ false → news_of x e ≡ Nothing
no_news x e h = rw h refl
