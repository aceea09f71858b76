-- Lists of a number of items that is allowed.
use Rattle.std.proofs.Common.{◌≡◌, ℕ, List, length, true, false, Some, Ok, Err, refl, sym, ap, ◌∙◌}
use Rattle.serde_json.specs.Data.{Data}
use Rattle.serde_json.specs.Events.{items_len}
use Rattle.serde_json.specs.Find.{as_array}
use Rattle.serde_json.specs.View.{items_view}
use Rattle.serde_json.specs.declared.value.Value.{Value}
use Rattle.serde_json.proofs.Views.{items_len-items_view}
use Rattle.config_model.specs.declared.fault.DocKind.TheVariants.{Range}
use Rattle.config_model.specs.declared.fault.ReadRefusal.{ReadRefusal}
use Rattle.config_model.specs.declared.fault.ReadRefusal.TheVariants.{Doc, NoMemory}
use Rattle.config_model.specs.declared.fields.Count.{Count}
use Rattle.std.specs.Prelude.{Result}
use Rattle.config_model.specs.Faults.{Fault, IsFault, Fails, ◌>>=◌}
use Rattle.config_model.specs.Fields.{allows, list_at}

-- a refusal with the fault at which reading stops
pub fails : {Y : Type 0} (e : ReadRefusal) (f : Fault) (read : Result Y Fault) → IsFault e f → read ≡ Err f → Fails e read
fails (Doc d) f read is stopped = stopped ∙ ap (λ (g : Fault). Err g) (sym is)
fails NoMemory f read is stopped = tt

-- what follows is not read
pub fails_through : {X Y : Type 0} (e : ReadRefusal) (read : Result X Fault) (next : X → Result Y Fault) → Fails e read → Fails e (read >>= next)
fails_through (Doc d) read next stopped = rw stopped refl
fails_through NoMemory read next stopped = tt

pub is_kept : (count : Count) (path : List ℕ) (d : Data) (vs ws : List Value) → ws ≡ vs → Some (items_view vs) ≡ as_array d → allows count (length ws) ≡ true → list_at count path d ≡ Ok (items_view ws)
unfolding list_at
is_kept count path d vs ws same there allowed =
    let n : allows count (items_len (items_view vs)) ≡ true = ap (allows count) (items_len-items_view vs ∙ ap length (sym same)) ∙ allowed in
    rw (← there, n) (ap (λ us. Ok (items_view us)) (sym same))

pub is_refused : (count : Count) (path : List ℕ) (d : Data) (vs ws : List Value) → ws ≡ vs → Some (items_view vs) ≡ as_array d → allows count (length ws) ≡ false → list_at count path d ≡ Err (record { path = path; kind = Range })
unfolding list_at
is_refused count path d vs ws same there refused =
    let n : allows count (items_len (items_view vs)) ≡ false = ap (allows count) (items_len-items_view vs ∙ ap length (sym same)) ∙ refused in
    rw (← there, n) refl
