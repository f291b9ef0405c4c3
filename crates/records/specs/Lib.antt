-- Records of four words.
pub mod Records
