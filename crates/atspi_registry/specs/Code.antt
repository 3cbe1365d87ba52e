-- A registry as the tuple of its parts: how a proof tells two of them apart.
use Rattle.std.specs.Prelude.{refl, ℕ, List, Option}
use Rattle.std.specs.Coded.{Coded, code_by, coded_ℕ, coded_list, coded_option, coded×}
use Rattle.atspi_message.specs.Envelope.{Envelope}
use Rattle.atspi_protocol.specs.ends.DataCode.{envelope_code}
use Rattle.atspi_protocol.specs.registering.Steps.{Registry}

abbrev List2 : Type 0
List2 = List (List ℕ × List ℕ)

abbrev list2_code : Coded List2
list2_code = coded_list (coded× (coded_list coded_ℕ) (coded_list coded_ℕ))

abbrev pub registry_code : Coded Registry
registry_code =
    code_by (List2 × (List2 × (ℕ × (Option ℕ × (Option (List ℕ) × (ℕ × List Envelope))))))
    (coded× list2_code
    (coded× list2_code
    (coded× coded_ℕ
    (coded× (coded_option coded_ℕ)
    (coded× (coded_option (coded_list coded_ℕ)) (coded× coded_ℕ (coded_list envelope_code)))))))
    (λ r. (r.state.pairs, (r.state.children, (r.state.embeds, (r.state.hello, (r.state.own, (r.state.next, r.out)))))))
    (λ p. record {
      state =
          record {
            pairs = p.0;
            children = p.1.0;
            embeds = p.1.1.0;
            hello = p.1.1.1.0;
            own = p.1.1.1.1.0;
            next = p.1.1.1.1.1.0;
          };
      out = p.1.1.1.1.1.1;
    }) (λ _. refl)
