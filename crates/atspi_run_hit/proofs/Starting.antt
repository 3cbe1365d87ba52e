-- Before the application starts, and its start.
use Rattle.std.proofs.Common.{◌≡◌, ◌≤◌, ℕ, Bool, true, false, cond, List, [], Option, None, Some, refl, sym, ap, subst, ◌∙◌, arith}
use Rattle.std.specs.Prelude.{MatchOption, nat_lt, length, encode_utf8_all}
use Rattle.std.specs.FinMap.{empty}
use Rattle.std.specs.Option.{option_map}
use Rattle.std.proofs.lemmas.Bool.Decides.{nat_tests}
use Rattle.atspi_tree_model.specs.declared.limits.TheConstants.{NAME_LIMIT}
use Rattle.atspi_tree_model.specs.Edits.{is_long_name}
use Rattle.atspi_tree_model.specs.Row.{Holds, IsName}
use Rattle.atspi_tree_model.specs.declared.edit.EditFault.TheVariants.{TextFull}
use Rattle.atspi_run_hit.specs.declared.line.HitLine.TheVariants.{App}
use Rattle.atspi_run_hit.specs.declared.naming.Refused.TheVariants.{Asked}
use Rattle.atspi_run_hit.specs.declared.placed.Placed.{Placed}
use Rattle.atspi_run_hit.specs.declared.session.Session.{Session}
use Rattle.atspi_run_hit.specs.Wholes as wholes
use Rattle.atspi_run_hit.specs.Wholes.{WholeTree}
use Rattle.atspi_run_hit.specs.Scene.{Scene, begins, refusal}
use Rattle.atspi_run_hit.specs.inner.Seen.{HasCalled, IsSession, scene_of, seen}
use Rattle.atspi_run_hit.proofs.Asking.{Done}

-- a new application
pub begun_is : (s : Scene) (t : WholeTree) (name copy : List ℕ) → s ≡ record { tree = t; places = empty; calls = 0 } → t ≡ wholes.begins copy → copy ≡ name → s ≡ begins name
begun_is s t name copy h b c = h ∙ ap of_tree b ∙ ap begins c
  where
    of_tree : WholeTree → Scene
    of_tree t = record { tree = t; places = empty; calls = 0 }

-- a name that is too long, and one that is not
pub long_refused : (name : List ℕ) (long : Bool) → long ≡ is_long_name name → long ≡ true → refusal None (App name) ≡ Some (Asked TextFull)
long_refused name long h e = ap (λ b. cond b (Some (Asked TextFull)) None) (sym h ∙ e)

short_by : (m n : ℕ) → nat_lt m n ≡ false → n ≤ m
short_by m n h = grind (arith, nat_tests)

pub is_name : (name : List ℕ) (long : Bool) → long ≡ is_long_name name → long ≡ false → IsName name
is_name name long h e = short_by NAME_LIMIT (length (encode_utf8_all name)) (sym h ∙ e)

pub start_done : (name : List ℕ) (long : Bool) (s : Scene) → long ≡ is_long_name name → long ≡ false → s ≡ begins name → Done None (App name) (Some s) []
start_done name long s h e b = (ap (λ b. cond b (Some (Asked TextFull)) None) (sym h ∙ e), ap Some b, refl)

-- A SESSION, by whether the application has started
pub no_scene : {T K : Type 0} (tree : T → WholeTree) (s : Session T K) → s.placed ≡ None → scene_of tree s ≡ None
no_scene tree s h = ap (option_map (seen tree)) h

pub one_scene : {T K : Type 0} (tree : T → WholeTree) (s : Session T K) (p : Placed T K) → s.placed ≡ Some p → scene_of tree s ≡ Some (seen tree p)
one_scene tree s p h = ap (option_map (seen tree)) h

pub waiting : {T K : Type 0} (is_whole : T → Type 0) (is_kit : K → Type 0) (s : Session T K) → s.placed ≡ None → Holds is_kit s.kit → IsSession is_whole is_kit s
waiting is_whole is_kit s h k = subst (λ p. MatchOption p (Holds is_kit s.kit) (λ p. is_whole p.whole)) (sym h) k

pub waits : {T K : Type 0} (is_whole : T → Type 0) (is_kit : K → Type 0) (s : Session T K) → s.placed ≡ None → IsSession is_whole is_kit s → Holds is_kit s.kit
waits is_whole is_kit s h k = subst (λ p. MatchOption p (Holds is_kit s.kit) (λ p. is_whole p.whole)) h k

pub started : {T K : Type 0} (is_whole : T → Type 0) (is_kit : K → Type 0) (s : Session T K) (p : Placed T K) → s.placed ≡ Some p → IsSession is_whole is_kit s → is_whole p.whole
started is_whole is_kit s p h k = subst (λ p. MatchOption p (Holds is_kit s.kit) (λ p. is_whole p.whole)) h k

pub kit_is : {K : Type 0} (is_kit : K → Type 0) (o : Option K) (k : K) → o ≡ Some k → Holds is_kit o → is_kit k
kit_is is_kit o k h x = subst (Holds is_kit) h x

pub called_at : {T K : Type 0} (tree : T → WholeTree) (s : Session T K) (p : Placed T K) (n : ℕ) → s.placed ≡ Some p → HasCalled (scene_of tree s) n → p.calls ≤ n
called_at tree s p n h c = subst (λ x. HasCalled x n) (one_scene tree s p h) c
