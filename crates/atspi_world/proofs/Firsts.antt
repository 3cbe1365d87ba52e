-- The registry stays the first of the ends, and stays here.
use Rattle.std.proofs.Common.{◌≡◌, ℕ, zero, suc, Bool, true, false, List, [], ◌∷◌, ◌++◌, map, Option, None, Some, refl, sym, ap, ◌∙◌, subst}
use Rattle.std.specs.Prelude.{if◌then◌else◌}
use Rattle.std.proofs.lemmas.Option.{same_Some}
use Rattle.atspi_script_lines.specs.declared.line.Party.{Party}
use Rattle.atspi_script_lines.specs.declared.line.Party.TheVariants.{Bus as The_bus, Registry as The_registry}
use Rattle.atspi_protocol.specs.registering.Steps.{Registry}
use Rattle.atspi_match.specs.routing.Queues.{Bus}
use Rattle.atspi_trace.specs.World.{Role, the_registry, End, World}
use Rattle.atspi_trace.specs.Ends.{is_here, same_party, end_at, with_end}
use Rattle.atspi_trace.specs.Due.{is_lost}
use Rattle.atspi_world.specs.Worlds.{BeginsWithRegistry, IsRegistry}
use Rattle.atspi_world.proofs.Changed.{part_of}

-- the registry stays the first
abbrev first_who : List (Party × Role) → Party
first_who [] = The_bus
first_who (x ∷ xs) = x.0

abbrev first_role : Registry → List (Party × Role) → Role
first_role r [] = the_registry r.state
first_role r (x ∷ xs) = x.1

pub first_parts : (ends ends' : List End) → map part_of ends' ≡ map part_of ends → BeginsWithRegistry ends → BeginsWithRegistry ends'
first_parts [] ends' same h = absurd h
first_parts (e ∷ es) [] same h = absurd cc
first_parts (e ∷ es) (x ∷ xs) same h = ap first_who same ∙ h

pub registry_parts : (r : Registry) (ends ends' : List End) → map part_of ends' ≡ map part_of ends → IsRegistry r ends → IsRegistry r ends'
registry_parts r [] ends' same h = absurd h
registry_parts r (e ∷ es) [] same h = absurd cc
registry_parts r (e ∷ es) (x ∷ xs) same h = (ap (first_role r) same ∙ h.0, h.1)

-- where the first end is the same
pub first_same : (ends ends' : List End) → end_at ends' 0 ≡ end_at ends 0 → BeginsWithRegistry ends → BeginsWithRegistry ends'
first_same [] ends' same h = absurd h
first_same (e ∷ es) [] same h = absurd cc
first_same (e ∷ es) (x ∷ xs) same h = ap (λ (y : End). y.who) (same_Some x e same) ∙ h

pub registry_same : (r : Registry) (ends ends' : List End) → end_at ends' 0 ≡ end_at ends 0 → IsRegistry r ends → IsRegistry r ends'
registry_same r [] ends' same h = absurd h
registry_same r (e ∷ es) [] same h = absurd cc
registry_same r (e ∷ es) (x ∷ xs) same h = (ap (λ (y : End). y.role) (same_Some x e same) ∙ h.0, h.1)

abbrev pub lost_if : Option End → Bool
lost_if None = false
lost_if (Some e) = if is_here e.standing then false else true

pub lost_first : (b : Bus) (ends : List End) (swaps : ℕ) → is_lost (record { bus = b; ends = ends; swaps = swaps }) ≡ lost_if (end_at ends 0)
lost_first b [] swaps = refl
lost_first b (e ∷ es) swaps = refl

pub lives_same : (w v : World) → end_at v.ends 0 ≡ end_at w.ends 0 → is_lost w ≡ false → is_lost v ≡ false
lives_same w v same h = lost_first v.bus v.ends v.swaps ∙ ap lost_if same ∙ sym (lost_first w.bus w.ends w.swaps) ∙ h

-- another end than the registry changes
pub first_kept : (f : End → End) (ends : List End) (conn : ℕ) → BeginsWithRegistry ends → ((e : End) → end_at ends conn ≡ Some e → same_party e.who The_registry ≡ false) → end_at (with_end conn f ends) 0 ≡ end_at ends 0
first_kept f [] conn h differs = absurd h
first_kept f (e ∷ es) zero h differs = let clash : true ≡ false = sym (ap (λ p. same_party p The_registry) h) ∙ differs e refl in absurd cc
first_kept f (e ∷ es) (suc conn) h differs = refl

pub first_more : (ends : List End) (n : End) → BeginsWithRegistry ends → end_at (ends ++ n ∷ []) 0 ≡ end_at ends 0
first_more [] n h = absurd h
first_more (e ∷ es) n h = refl

-- the first end, where it is known
pub first_with : (f : End → End) (ends : List End) (e : End) → end_at ends 0 ≡ Some e → end_at (with_end 0 f ends) 0 ≡ Some (f e)
first_with f [] e at = absurd cc
first_with f (x ∷ xs) e at = ap (λ y. Some (f y)) (same_Some x e at)

pub first_is : (ends : List End) (e : End) → end_at ends 0 ≡ Some e → BeginsWithRegistry ends → e.who ≡ The_registry
first_is [] e at h = absurd h
first_is (x ∷ xs) e at h = subst (λ (y : End). y.who ≡ The_registry) (same_Some x e at) h

pub registry_is : (r : Registry) (ends : List End) (e : End) → end_at ends 0 ≡ Some e → e.role ≡ the_registry r.state → r.out ≡ [] → IsRegistry r ends
registry_is r [] e at role quiet = absurd cc
registry_is r (x ∷ xs) e at role quiet = (ap (λ (y : End). y.role) (same_Some x e at) ∙ role, quiet)

pub registry_first : (ends : List End) (e : End) → end_at ends 0 ≡ Some e → e.who ≡ The_registry → BeginsWithRegistry ends
registry_first [] e at who = absurd cc
registry_first (x ∷ xs) e at who = ap (λ (y : End). y.who) (same_Some x e at) ∙ who
