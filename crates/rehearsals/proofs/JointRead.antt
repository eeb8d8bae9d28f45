-- A joint text that was read. Without a line `run` it has no script.
use Rattle.std.proofs.Common.{◌≡◌, ◌∙◌, ℕ, Bool, true, false, ◌||◌, List, [], ◌∷◌, Option, None, Some, Result, Ok, Err, IfSome, refl, sym, subst, true≢false}
use Rattle.roadnet.specs.Net.{Net}
use Rattle.dimacs.specs.declared.fault.Fault.{Fault}
use Rattle.dimacs.specs.Faults.{Row}
use Rattle.dimacs.specs.Joint.{is_run, after_run, has_run}
use Rattle.dimacs.specs.Lines.{rows}
use Rattle.dimacs.specs.Gr.{ReadsBeforeRun}
use Rattle.dimacs.specs.Texts.{OfReader, ReadsText, map_ok}
use Rattle.scripts.specs.ScriptTexts.{ScriptLine, script_text}
use Rattle.printing.specs.Failing.{fault_told_of}
use Rattle.printing.specs.declared.failed.Failed.{Failed}
use Rattle.printing.specs.declared.failed.Failed.TheVariants.{Text}
use Rattle.printing.proofs.ReadTexts.{value_read}
use Rattle.rehearsals.specs.declared.joint.Joint.{Joint}
use Rattle.rehearsals.specs.Joint.{SaysJoint, IsTextRefused, ReadsJoint}

run_here : (b c : Bool) → b ≡ true → (b || c) ≡ true
run_here b c e = rw e refl

past_run : (row : Row) (more : List Row) (b : Bool) → is_run row ≡ b → has_run (row ∷ more) ≡ false → (has_run more ≡ false → after_run more ≡ []) → after_run (row ∷ more) ≡ []
past_run row more true is none rest = absurd (true≢false (sym (run_here (is_run row) (has_run more) is) ∙ none))
past_run row more false is none rest = rw is (rest (rw is at none))

no_script : (rs : List Row) → has_run rs ≡ false → after_run rs ≡ []
no_script [] none = refl
no_script (row ∷ more) none = past_run row more (is_run row) refl none (no_script more)

says_network : (text : List ℕ) (left : Option (List ℕ)) (found : Net × Bool) (joint : Joint) → ReadsBeforeRun text left (Ok found) → found.1 ≡ false → joint.network ≡ found.0 → joint.events.items ≡ [] → SaysJoint text joint
says_network text left found joint network none same empty =
    let nothing : after_run (rows text) ≡ [] = no_script (rows text) (sym network.at_run ∙ none) in
    record { network_is = rw same network.network; script_is = rw (nothing, empty) refl }

pub says_no_events : (known left : Option (List ℕ)) (found : Net × Bool) (joint : Joint) → IfSome known (λ text. ReadsBeforeRun text left (Ok found)) → found.1 ≡ false → joint.network ≡ found.0 → joint.events.items ≡ [] → IfSome known (λ text. SaysJoint text joint)
says_no_events None left found joint network none same empty = tt
says_no_events (Some text) left found joint network none same empty = says_network text left found joint network none same empty

-- the network of lines that were read
pub network_read : (known left : Option (List ℕ)) (r : Result (Net × Bool) Fault) (found : Net × Bool) → ◌≡◌ {A = Result (Net × Bool) Failed} (Ok found) (fault_told_of 0 r) → IfSome known (λ text. ReadsBeforeRun text left r) → IfSome known (λ text. ReadsBeforeRun text left (Ok found))
network_read known left r found is said = value_read 0 r found is (λ answer. IfSome known (λ text. ReadsBeforeRun text left answer)) said

-- the script behind them has a fault
pub script_refused : {Y : Type 0} (known mid left : Option (List ℕ)) (found : Net × Bool) (items : Y → List ScriptLine) (r : Result Y Fault) (failed : Failed) → ◌≡◌ {A = Result Y Failed} (Err failed) (fault_told_of 1 r)
    → IfSome known (λ text. ReadsBeforeRun text mid (Ok found)) → IfSome mid (λ script. ReadsText script_text script (OfReader left) (map_ok items r)) → IfSome known (λ text. ReadsJoint text left (Err failed))
script_refused None mid left found items r failed is network script = tt
script_refused (Some text) mid left found items (Ok y) failed is network script = absurd cc
script_refused (Some text) None left found items (Err fault) failed is network script = absurd network.rest
script_refused (Some text) (Some rest) left found items (Err fault) failed is network script =
    let same : failed ≡ Text 1 fault = cc in
    let told : IsTextRefused 1 text left fault = record { net = found.0; network_is = network.network; told = record { script = rest; script_is = network.rest; told = script } } in
    subst (λ (f : Failed). ReadsJoint text left (Err f)) (sym same) told
