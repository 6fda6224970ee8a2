-- Laws of the texts of sources.
use Rattle.std.proofs.Common.{◌≡◌, ℕ, ◌++◌, List, codes, decimal, Option, Some, None, refl, sym, append_assoc, append-nil}
use Rattle.mj_trace.specs.Block.{source_text}
use Rattle.mj_reading.specs.Reading.{NoNumber}
use Rattle.mj_check.specs.declared.sources.SourceName.{SourceName}
use Rattle.mj_check.specs.declared.sources.SourceName.TheVariants as name
use Rattle.mj_check.specs.declared.sources.SourceTold.{SourceTold}
use Rattle.mj_check.specs.Sources.{IsEdge, edge_text, edge_of, name_text, source_of}

pub edge-before : (x : Option ℕ) (behind : List ℕ) → NoNumber behind → NoNumber (edge_text x ++ behind)
edge-before None behind b = b
edge-before (Some edge) behind b = refl

pub same-source : {x w : SourceTold} → x.name ≡ w.name → x.number ≡ w.number → x.edge ≡ w.edge → x ≡ w
same-source a b c = λ i. record { name = a i; number = b i; edge = c i }

-- a source's text is its name, its number and its edge
pub source-told : (s : SourceName) (n : ℕ) (edge : Option ℕ) → IsEdge s edge → source_text (source_of s n (edge_of edge)) ≡ ((name_text s ++ codes " ") ++ decimal n) ++ edge_text edge
source-told name.Low n None h = sym (append-nil (codes "low " ++ decimal n))
source-told name.High n None h = sym (append-nil (codes "high " ++ decimal n))
source-told name.TendonLow n None h = sym (append-nil (codes "tlow " ++ decimal n))
source-told name.TendonHigh n None h = sym (append-nil (codes "thigh " ++ decimal n))
source-told name.Contact n (Some edge) h = append_assoc (codes "contact " ++ decimal n) (codes " ") (decimal edge)
source-told name.Equality n None h = sym (append-nil (codes "equality " ++ decimal n))
source-told name.Friction n None h = sym (append-nil (codes "friction " ++ decimal n))
source-told name.Contact n None h = absurd h
source-told name.Low n (Some e) h = absurd h
source-told name.High n (Some e) h = absurd h
source-told name.TendonLow n (Some e) h = absurd h
source-told name.TendonHigh n (Some e) h = absurd h
source-told name.Equality n (Some e) h = absurd h
source-told name.Friction n (Some e) h = absurd h
