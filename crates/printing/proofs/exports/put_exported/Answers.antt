use Rattle.printing.specs.Exports.{SaysExported}
use Rattle.printing.specs.declared.exports.Exported.TheVariants.{Network, Landmarks, Closings}
use Rattle.printing.proofs.ExportedTexts.{network_says, landmarks_say, closings_say, on_writes}
use Rattle.printing.proofs.exports.put_exported.Goals as goal

pub returns-in-Network-clause-read : goal.returns-in-Network-clause-read
returns-in-Network-clause-read g c =
    let says = network_says c.args.network.now c.put_network.ensures.network c.args.origin.now c.put_network.ensures.origin in
    rw c.in-Network.is (on_writes c.put_network.result (SaysExported Network c.args.network.now) _ _ _ says c.put_network.ensures.puts.written)

pub returns-in-Landmarks-clause-read : goal.returns-in-Landmarks-clause-read
returns-in-Landmarks-clause-read g c =
    let says = landmarks_say c.args.network.now c.put_landmarks.ensures.network c.args.origin.now c.put_landmarks.ensures.origin in
    rw c.in-Landmarks.is (on_writes c.put_landmarks.result (SaysExported Landmarks c.args.network.now) _ _ _ says c.put_landmarks.ensures.puts.written)

pub returns-in-Closings-clause-read : goal.returns-in-Closings-clause-read
returns-in-Closings-clause-read g c =
    let says = closings_say c.args.network.now c.put_closings.ensures.network c.args.origin.now c.put_closings.ensures.origin in
    rw c.in-Closings.is (on_writes c.put_closings.result (SaysExported Closings c.args.network.now) _ _ _ says c.put_closings.ensures.puts.written)
