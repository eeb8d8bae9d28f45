-- The texts in which a network is written out give it back.
use Rattle.std.proofs.Common.{◌≤◌, length, map, refl, arith}
use Rattle.std.proofs.lemmas.List.{length-map}
use Rattle.printing.specs.Chosen.{closed_arcs}
use Rattle.printing.specs.Exports.{opened_arc, all_open, closings}
use Rattle.printing.proofs.Restored.{closing_restores}
use Rattle.storetexts.specs.Exported.{ExportRestores}

pub export_restores : ExportRestores
export_restores net network landmarks closing is says_network says_landmarks says_closings =
    let same = length-map net.arcs opened_arc in
    let arcs = is.arcs_to in
    let few : length (map opened_arc net.arcs) ≤ net.room = omega (arith, same, arcs) in
    record {
      made = record (all_open net) { landmarks = net.landmarks; room = net.room };
      made_is = record {
        given = record { net = all_open net; network_is = says_network; marks = net.landmarks; marks_are = says_landmarks; few = is.landmarks_to };
        fits = (few, is.room_to);
        made_is = refl;
      };
      groups = closings (closed_arcs net.arcs);
      groups_are = says_closings;
      restored = closing_restores net;
    }
