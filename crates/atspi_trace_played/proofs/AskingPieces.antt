-- What a reader asks, as the whole uses it.
use Rattle.std.proofs.Common.{◌⊎◌, inl, inr, ℕ, List, ◌++◌, refl}
use Rattle.std.specs.List.{AllByRecursion}
use Rattle.atspi_protocol.specs.following.ReaderState.{Done, sends, speaks, tells_end, ReaderState}
use Rattle.atspi_protocol.specs.following.Takes.{reader_takes}
use Rattle.atspi_trace.specs.World.{Hearer, World}
use Rattle.atspi_trace.specs.Hearing.{hears_letter}
use Rattle.atspi_trace_played.proofs.Pieces as pieces
use Rattle.atspi_trace_played.proofs.Pieces.{world_behind, entries_behind, AsksNone, AsksStep, AsksFirst, AsksCalled, IdleAfter}
use Rattle.atspi_trace_played.proofs.AskingWords.{all_weaker}
use Rattle.atspi_trace_played.proofs.AskingTakes.{IsNoCall, NoCalls}
use Rattle.atspi_trace_played.proofs.AskingWishes as wishes
use Rattle.atspi_trace_played.proofs.AskingStep as step
use Rattle.atspi_trace_played.proofs.AskingStep.{AsksNothing, AsksOne, idle_step}

no_call : (d : Done) → IsNoCall d → pieces.IsNoCall d
no_call (sends m) n = absurd n
no_call (speaks name line) n = refl
no_call (tells_end name) n = refl

no_calls : (out : List Done) → NoCalls out → AllByRecursion pieces.IsNoCall out
no_calls out n = all_weaker IsNoCall pieces.IsNoCall no_call out n

of_either : (w : World) (conn r : ℕ) (h : Hearer) (s t : ReaderState) → AsksNothing h t ⊎ AsksOne w conn r h s t → AsksNone h t ⊎ pieces.AsksOne w conn r h s t
of_either w conn r h s t (inl n) = inl (record { no_call = no_calls t.out n.quiet; after = n.well })
of_either w conn r h s t (inr o) = inr (record { question = o.question; front = o.front; out = o.out; no_call = no_calls o.front o.quiet; may = o.may; after = o.well })

pub asks_step : AsksStep
asks_step script es w conn r e h letter rest s g x a sees well =
    of_either (world_behind w conn) conn r (hears_letter h w.ends letter) s (reader_takes s letter.said.message)
    (step.asks_step script (es ++ entries_behind w conn) w (world_behind w conn) conn r e h letter rest s g x.is_here.there x.whose x.role x.is_here.standing x.link a well sees)

pub asks_first : AsksFirst
asks_first = wishes.asks_first

pub asks_called : AsksCalled
asks_called = wishes.asks_called

pub idle_after : IdleAfter
idle_after = idle_step
