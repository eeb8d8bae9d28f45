-- Why a table is refused: what the reads of its three texts gave, put together.
use Rattle.std.proofs.Common.{◌≡◌, ℕ, List, Option, None, Some, Result, Ok, Err, sym, subst, refl}
use Rattle.std.specs.Prelude.{IfErr, IfSome, ⊤}
use Rattle.roadnet.specs.Net.{Net}
use Rattle.roadnet.specs.declared.refusals.Refusal.{Refusal}
use Rattle.roadnet.specs.declared.refusals.Refusal.TheVariants.{Write, OutOfMemory}
use Rattle.dimacs.specs.declared.fault.Fault.{Fault}
use Rattle.dimacs.specs.Content.{gr_text, content}
use Rattle.dimacs.specs.Landmarks.{nodes_text}
use Rattle.dimacs.specs.Texts.{Source, FaultOf, ReadsText, map_ok}
use Rattle.printing.specs.declared.failed.Failed.{Failed}
use Rattle.printing.specs.declared.failed.Failed.TheVariants.{Text, Code}
use Rattle.printing.specs.Failing.{fault_told_of}
use Rattle.querytexts.specs.Once.{IsUnanswered}
use Rattle.querytexts.specs.Table.{GiveTable, IsRefusedTable, nodes_in}
use Rattle.querytexts.proofs.Unanswered.{kind_of}

-- a read whose fault is told had it, and one that is gone on from gave this
told_err : {X : Type 0} (which : ℕ) (r : Result X Fault) (failed : Failed) → Err failed ≡ fault_told_of which r → (fault : Fault) × (r ≡ Err fault) × (failed ≡ Text which fault)
told_err which (Ok x) failed e = cc
told_err which (Err fault) failed e = (fault, refl, cc)

told_ok : {X : Type 0} (which : ℕ) (r : Result X Fault) (x : X) → Ok x ≡ fault_told_of which r → r ≡ Ok x
told_ok which (Ok y) x e = cc
told_ok which (Err fault) x e = cc

if_any : (c : Option (List ℕ)) → IfSome c (λ z. ⊤)
if_any None = tt
if_any (Some z) = tt

if_three : (a b c : Option (List ℕ)) (A B C : List ℕ → Type 0) (G : List ℕ → List ℕ → List ℕ → Type 0) → ((x y z : List ℕ) → A x → B y → C z → G x y z) → IfSome a A → IfSome b B → IfSome c C
    → IfSome a (λ x. IfSome b (λ y. IfSome c (λ z. G x y z)))
if_three None b c A B C G f ha hb hc = tt
if_three (Some x) None c A B C G f ha hb hc = tt
if_three (Some x) (Some y) None A B C G f ha hb hc = tt
if_three (Some x) (Some y) (Some z) A B C G f ha hb hc = f x y z ha hb hc

if_more : (a : Option (List ℕ)) (A B : List ℕ → Type 0) → ((x : List ℕ) → A x → B x) → IfSome a A → IfSome a B
if_more None A B f h = tt
if_more (Some x) A B f h = f x h

pub network_read : (a : Option (List ℕ)) (source : Source) (r : Result Net Fault) (net : Net) → Ok net ≡ fault_told_of 0 r → IfSome a (λ text. ReadsText gr_text text source r) → IfSome a (λ text. content text ≡ Ok net)
network_read a source r net e h = if_more a (λ text. ReadsText gr_text text source r) (λ text. content text ≡ Ok net) (λ text reads. (subst (ReadsText gr_text text source) (told_ok 0 r net e) reads).0) h

pub nodes_read : {X : Type 0} (items : X → List ℕ) (a : Option (List ℕ)) (source : Source) (net : Net) (nodes which : ℕ) (r : Result X Fault) (x : X) → nodes ≡ net.nodes → Ok x ≡ fault_told_of which r
    → IfSome a (λ text. ReadsText (nodes_text nodes) text source (map_ok items r)) → IfSome a (λ text. nodes_in net text ≡ Ok (items x))
nodes_read {X = X} items a source net nodes which r x same e h =
    if_more a (λ text. ReadsText (nodes_text nodes) text source (map_ok items r)) (λ text. nodes_in net text ≡ Ok (items x))
    (λ text reads. (subst (λ n. ReadsText (nodes_text n) text source (Ok (items x))) same (subst (λ (q : Result X Fault). ReadsText (nodes_text nodes) text source (map_ok items q)) (told_ok which r x e) reads)).0) h

-- a fault of the sources is told
pub sources_refused : {X : Type 0} (items : X → List ℕ) (a b c : Option (List ℕ)) (first source third : Source) (net : Net) (nodes : ℕ) (r : Result X Fault) (failed : Failed) → nodes ≡ net.nodes
    → Err failed ≡ fault_told_of 1 r → IfSome a (λ text. content text ≡ Ok net) → IfSome b (λ text. ReadsText (nodes_text nodes) text source (map_ok items r))
    → IfSome a (λ network. IfSome b (λ from. IfSome c (λ to. IsRefusedTable network from to first source third failed)))
sources_refused {X = X} items a b c first source third net nodes r failed same e network reads =
    let told = told_err 1 r failed e in
    if_three a b c (λ x. content x ≡ Ok net) (λ y. ReadsText (nodes_text nodes) y source (map_ok items r)) (λ z. ⊤) (λ x y z. IsRefusedTable x y z first source third failed)
    (λ x y z is read any.
    let fault = subst (λ n. FaultOf (nodes_text n) y source told.0) same (subst (λ (q : Result X Fault). ReadsText (nodes_text nodes) y source (map_ok items q)) told.1 read) in
    subst (λ f. IsRefusedTable x y z first source third f) (sym told.2) (record { net = net; network_is = is; holds = fault }))
    network reads (if_any c)

-- or of the targets
pub targets_refused : {X : Type 0} (items : X → List ℕ) (a b c : Option (List ℕ)) (first second source : Source) (net : Net) (list : List ℕ) (nodes : ℕ) (r : Result X Fault) (failed : Failed) → nodes ≡ net.nodes
    → Err failed ≡ fault_told_of 2 r → IfSome a (λ text. content text ≡ Ok net) → IfSome b (λ text. nodes_in net text ≡ Ok list) → IfSome c (λ text. ReadsText (nodes_text nodes) text source (map_ok items r))
    → IfSome a (λ network. IfSome b (λ from. IfSome c (λ to. IsRefusedTable network from to first second source failed)))
targets_refused {X = X} items a b c first second source net list nodes r failed same e network sources reads =
    let told = told_err 2 r failed e in
    if_three a b c (λ x. content x ≡ Ok net) (λ y. nodes_in net y ≡ Ok list) (λ z. ReadsText (nodes_text nodes) z source (map_ok items r)) (λ x y z. IsRefusedTable x y z first second source failed)
    (λ x y z is listed read.
    let fault = subst (λ n. FaultOf (nodes_text n) z source told.0) same (subst (λ (q : Result X Fault). ReadsText (nodes_text nodes) z source (map_ok items q)) told.1 read) in
    subst (λ f. IsRefusedTable x y z first second source f) (sym told.2) (record { net = net; network_is = is; holds = (list, listed, fault) }))
    network sources reads

-- none has a fault
given_refused : (x y z : List ℕ) (first second third : Source) (refusal : Refusal) → IsUnanswered (Code refusal) → GiveTable x y z → IsRefusedTable x y z first second third (Code refusal)
given_refused x y z first second third Write h give = give
given_refused x y z first second third OutOfMemory h give = give
given_refused x y z first second third refusal h give = absurd h

gives : (net : Net) (x y z list list' : List ℕ) → content x ≡ Ok net → nodes_in net y ≡ Ok list → nodes_in net z ≡ Ok list' → GiveTable x y z
gives net x y z list list' is listed listed' = record { net = net; network_is = is; holds = record { source_list = list; sources_are = listed; target_list = list'; targets_are = listed'; holds = tt } }

pub table_unanswered : {X : Type 0} (a b c : Option (List ℕ)) (first second third : Source) (net : Net) (list list' : List ℕ) (r : Result X Failed) → IfSome a (λ text. content text ≡ Ok net)
    → IfSome b (λ text. nodes_in net text ≡ Ok list) → IfSome c (λ text. nodes_in net text ≡ Ok list') → IfErr r IsUnanswered
    → IfErr r (λ failed. IfSome a (λ network. IfSome b (λ from. IfSome c (λ to. IsRefusedTable network from to first second third failed))))
table_unanswered a b c first second third net list list' r network sources targets =
    kind_of (λ failed. IfSome a (λ network. IfSome b (λ from. IfSome c (λ to. IsRefusedTable network from to first second third failed)))) r
    (λ refusal h. if_three a b c (λ x. content x ≡ Ok net) (λ y. nodes_in net y ≡ Ok list) (λ z. nodes_in net z ≡ Ok list') (λ x y z. IsRefusedTable x y z first second third (Code refusal))
    (λ x y z is listed listed'. given_refused x y z first second third refusal h (gives net x y z list list' is listed listed')) network sources targets)
