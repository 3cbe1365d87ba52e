-- A launcher as the tuple of its parts: how a proof tells two of them apart.
use Rattle.std.specs.Prelude.{refl, ℕ, Bool, List}
use Rattle.std.specs.Coded.{Coded, code_by, coded_ℕ, coded_bool, coded_list, coded×}
use Rattle.atspi_message.specs.Envelope.{Envelope}
use Rattle.atspi_protocol.specs.ends.DataCode.{envelope_code}
use Rattle.atspi_launcher.specs.Launching.{Launcher}

abbrev pub launcher_code : Coded Launcher
launcher_code =
    code_by (List ℕ × (Bool × (Bool × (ℕ × List Envelope))))
    (coded× (coded_list coded_ℕ) (coded× coded_bool (coded× coded_bool (coded× coded_ℕ (coded_list envelope_code)))))
    (λ l. (l.state.address, (l.state.enabled, (l.state.screen_reader, (l.state.next, l.out)))))
    (λ p. record {
      state = record { address = p.0; enabled = p.1.0; screen_reader = p.1.1.0; next = p.1.1.1.0 };
      out = p.1.1.1.1;
    }) (λ _. refl)
