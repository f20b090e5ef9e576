mod Common
pub mod LabelMap
